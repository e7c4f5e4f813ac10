use mathlib.Core.Path.{sym, ap, ◌∙◌}
use Rattle.crystal.specs.Crystal.{earlier}
use Rattle.crystal.specs.Laws.{earlier-one}
use Rattle.lists.specs.Tests.{not-both}
use Rattle.crystal.proofs.judge.Goals as goal

pub returns-then-is_above_limit : goal.returns-then-is_above_limit
returns-then-is_above_limit c = let a = c.args in earlier-one a.a _ (c.is_above_limit.ensures.0 c.if-is_above_limit.true)

pub judge_operations-b-requires : goal.judge_operations-b-requires
judge_operations-b-requires c = c.requires (λ e. not-both (c.is_above_limit.ensures.1 e) c.if-is_above_limit.false)

pub returns : goal.returns
returns c = c.earlier.ensures ∙ ap (earlier c.args.a) c.judge_operations-b.ensures
