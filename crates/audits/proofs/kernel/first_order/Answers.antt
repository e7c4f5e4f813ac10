use Prim.Native.Nat.{◌<◌}
use native.Mathlib.Omega.{arith}
use mathlib.Core.Path.{sym, ap₂, ◌∙◌}
use lib.ListN.{length}
use borrow.Author.Count.{below_none, below_more}
use Rattle.audits.specs.Audit.{differ}
use Rattle.lists.specs.Lowest.{is_lowest}
use Rattle.audits.specs.Kernel.{another, readable, in_here}
use Rattle.audits.proofs.kernel.first_order.Goals as goal

pub loop-i-init : goal.loop-i-init
loop-i-init c = below_none _

pub own-requires : goal.own-requires
own-requires c = in_here c.requires.0 c.args.k c.requires.1

pub read-requires : goal.read-requires
read-requires c =
    let i = c.loop-i.i in
    let h : i < length c.args.bs.now = c.loop-i-test.true in
    readable c.requires.0 i c.args.k h c.requires.1

pub returns-then-differ : goal.returns-then-differ
unfolding another
returns-then-differ c =
    let l = c.loop-i in
    is_lowest (length c.args.bs.now) _ l.i
    (record { within = omega arith; passes = λ h. sym (c.differ.ensures ∙ ap₂ differ c.own.ensures c.read.ensures) ∙ c.if-differ.true; before = l.invariant })

pub loop-i-preserved : goal.loop-i-preserved
unfolding another
loop-i-preserved c =
    let l = c.loop-i in
    below_more _ l.i l.invariant (sym (c.differ.ensures ∙ ap₂ differ c.own.ensures c.read.ensures) ∙ c.if-differ.false)

pub returns : goal.returns
returns c =
    let l = c.loop-i in
    is_lowest (length c.args.bs.now) _ _ (record { within = omega arith; passes = λ h. absurd (omega arith); before = λ j h. l.invariant j (omega arith) })
