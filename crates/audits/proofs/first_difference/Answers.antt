use native.Mathlib.Omega.{arith}
use mathlib.Core.Path.{sym, ◌∙◌}
use lib.ListN.{length}
use borrow.Author.Count.{below_none, below_more}
use Rattle.audits.specs.Audit.{differ_at}
use Rattle.lists.specs.Lowest.{is_lowest}
use Rattle.audits.proofs.first_difference.Goals as goal

pub loop-k-init : goal.loop-k-init
loop-k-init c = below_none _

pub returns-then-differ : goal.returns-then-differ
returns-then-differ c =
    let a = c.args in
    let l = c.loop-k in
    is_lowest (length a.a.now) (differ_at a.a.now a.b.now) l.k
    (record { within = omega arith; passes = λ h. sym c.differ.ensures ∙ c.if-differ.true; before = l.invariant })

pub loop-k-preserved : goal.loop-k-preserved
loop-k-preserved c =
    let l = c.loop-k in
    below_more _ l.k l.invariant (sym c.differ.ensures ∙ c.if-differ.false)

pub returns : goal.returns
returns c =
    let a = c.args in
    let l = c.loop-k in
    is_lowest (length a.a.now) (differ_at a.a.now a.b.now) _
    (record { within = omega arith; passes = λ h. absurd (omega arith); before = λ j h. l.invariant j (omega arith) })
