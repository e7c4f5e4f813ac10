use Rattle.std.proofs.lemmas.Result.{err_from_is_err_and}
use Rattle.tables.specs.Answers.{passes, refuses}
use mathlib.Core.Path.{ap, ◌∙◌}
use lib.Dec.{lit≤}
use mir.Syntax.{w64}
use mir.ValLaws.{to_z-of_z}
use Rattle.tables.specs.Compact.{shifts_of, given}
use Rattle.tables.specs.Limits.{limit4}
use Rattle.orbits.specs.TrueTransposes.{swapped, legs4, true_transpose_compact_fc4}
use Rattle.orbits.specs.Moved.{true_refused, true_ready, true_done}
use Rattle.transposes_fc4.proofs.true_transpose_compact_fc4.Goals as goal

pub returns-in_err-judge_compact : goal.returns-in_err-judge_compact
unfolding true_transpose_compact_fc4
returns-in_err-judge_compact c =
    let p = err_from_is_err_and c.from_residual.result c.from_residual.ensures.1 in
    rw (p.1, p.2) (rw (← c.in_err-judge_compact.was) (true_refused limit4 3 c.args.fc4.now _ c.args.done.now (legs4 c.args.t_type) c.judge_compact.result c.judge_compact.ensures (refuses c.in_err-judge_compact.was)))

pub by_type-requires : goal.by_type-requires
by_type-requires c =
    true_ready limit4 3 c.args.fc4.now _ c.args.done.now (legs4 c.args.t_type) c.judge_compact.result c.judge_compact.ensures (lit≤ tt) (passes c.in_ok-judge_compact.was)

pub returns : goal.returns
unfolding true_transpose_compact_fc4
returns c =
    true_done limit4 3 c.args.fc4.now _ c.args.done.now (legs4 c.args.t_type) c.judge_compact.result c.judge_compact.ensures (passes c.in_ok-judge_compact.was)
    (c.by_type.ensures ∙ ap (λ t. swapped (shifts_of (given c.args.tables.now)) 3 (legs4 t) c.args.fc4.now) (to_z-of_z w64 c.args.t_type c.ranges.t_type)) c.clear.ensures
