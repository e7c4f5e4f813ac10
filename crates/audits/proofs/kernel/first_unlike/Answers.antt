use Prim.Native.Nat.{◌<◌}
use native.Mathlib.Omega.{arith}
use mathlib.Core.Path.{sym, ap₂, ◌∙◌}
use borrow.Author.Count.{below_none, below_more}
use Rattle.audits.specs.Audit.{differ}
use Rattle.lists.specs.Lowest.{is_lowest}
use Rattle.audits.specs.Kernel.{another, readable, in_here}
use Rattle.audits.proofs.kernel.first_unlike.Goals as goal

pub loop-k-init : goal.loop-k-init
loop-k-init c = below_none _

pub own-requires : goal.own-requires
own-requires c = in_here c.requires.0 c.loop-k.k (omega (arith, c.requires.2))

pub read-requires : goal.read-requires
read-requires c =
    let k = c.loop-k.k in
    let h : k < c.args.width = omega (arith, c.requires.2) in
    readable c.requires.0 c.args.i k c.requires.1 h

pub returns-then-differ : goal.returns-then-differ
unfolding another
returns-then-differ c =
    let l = c.loop-k in
    is_lowest c.args.until _ l.k
    (record { within = omega arith; passes = λ h. sym (c.differ.ensures ∙ ap₂ differ c.own.ensures c.read.ensures) ∙ c.if-differ.true; before = l.invariant })

pub loop-k-preserved : goal.loop-k-preserved
unfolding another
loop-k-preserved c =
    let l = c.loop-k in
    below_more _ l.k l.invariant (sym (c.differ.ensures ∙ ap₂ differ c.own.ensures c.read.ensures) ∙ c.if-differ.false)

pub returns : goal.returns
returns c =
    let l = c.loop-k in
    is_lowest c.args.until _ _ (record { within = omega arith; passes = λ h. absurd (omega arith); before = λ j h. l.invariant j (omega arith) })
