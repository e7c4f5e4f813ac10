use mathlib.Core.Path.{sym, ◌∙◌}
use native.Mathlib.Omega.{arith}
use borrow.Author.Count.{below_none, below_more}
use Rattle.tables.specs.Shifts.{has_null}
use Rattle.tables.proofs.Loops.{one-passed, all_failed}
use Rattle.explain.proofs.rules.has_null.Goals as goal

pub loop-t-init : goal.loop-t-init
loop-t-init c = below_none _

pub returns-then-is_null : goal.returns-then-is_null
unfolding has_null
returns-then-is_null c = one-passed _ _ c.loop-t.t c.loop-t-test.true (sym c.is_null.ensures ∙ c.if-is_null.true)

pub loop-t-preserved : goal.loop-t-preserved
loop-t-preserved c =
    let l = c.loop-t in
    below_more _ l.t l.invariant (sym c.is_null.ensures ∙ c.if-is_null.false)

pub returns : goal.returns
unfolding has_null
returns c = all_failed _ _ (λ k h. c.loop-t.invariant k (omega arith))
