use mathlib.Core.Path.{sym, ◌∙◌}
use native.Mathlib.Omega.{arith}
use borrow.Author.Count.{below_none, below_more}
use Rattle.tables.proofs.Loops.{one-passed, all_failed}
use Rattle.explain.proofs.rules.has_after.Goals as goal

pub loop-v-init : goal.loop-v-init
loop-v-init c = below_none _

pub returns-then-is_after : goal.returns-then-is_after
returns-then-is_after c = one-passed _ _ c.loop-v.v c.loop-v-test.true (sym c.is_after.ensures ∙ c.if-is_after.true)

pub loop-v-preserved : goal.loop-v-preserved
loop-v-preserved c =
    let l = c.loop-v in
    below_more _ l.v l.invariant (sym c.is_after.ensures ∙ c.if-is_after.false)

pub returns : goal.returns
returns c = all_failed _ _ (λ k h. c.loop-v.invariant k (omega arith))
