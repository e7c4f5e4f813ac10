use mathlib.Core.Path.{sym, ◌∙◌}
use native.Mathlib.Omega.{arith}
use borrow.Author.Count.{below_more}
use Rattle.lists.specs.Tests.{every, every-at, every_of, refuted, not-both}
use Rattle.grid.specs.Grid.{nine_on_grid}
use Rattle.grid.proofs.nine_on_grid.Goals as goal

pub loop-x-preserved : goal.loop-x-preserved
loop-x-preserved c = below_more _ _ c.loop-x.invariant (sym c.on_grid.ensures ∙ c.if-not-on_grid.false)

pub returns-then-not-on_grid : goal.returns-then-not-on_grid
unfolding nine_on_grid
returns-then-not-on_grid c =
    sym (refuted (every 9 _) (λ e. not-both (every-at 9 _ e c.loop-x.x-index (omega arith)) (sym c.on_grid.ensures ∙ c.if-not-on_grid.true)))

pub returns : goal.returns
unfolding nine_on_grid
returns c = sym (every_of 9 _ (λ k h. c.loop-x.invariant k (omega arith)))
