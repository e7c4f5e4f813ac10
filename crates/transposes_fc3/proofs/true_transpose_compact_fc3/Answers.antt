use Rattle.std.proofs.lemmas.Result.{err_from_is_err_and}
use Rattle.tables.specs.Answers.{passes, refuses}
use mathlib.Core.Path.{sym, ap, ◌∙◌}
use lib.Dec.{lit≤}
use mir.Syntax.{w64}
use mir.ValLaws.{to_z-of_z}
use Rattle.tables.specs.Compact.{shifts_of, given}
use Rattle.tables.specs.Limits.{limit3}
use Rattle.orbits.specs.TrueTransposes.{swapped, legs3, true_transpose_compact_fc3}
use Rattle.orbits.specs.Moved.{true_refused, true_ready, true_done}
use Rattle.transposes_fc3.proofs.true_transpose_compact_fc3.Goals as goal

pub returns-in_err-judge_compact : goal.returns-in_err-judge_compact
unfolding true_transpose_compact_fc3
returns-in_err-judge_compact c =
    let a = c.args in
    let T = given a.tables.now in
    let p = err_from_is_err_and c.from_residual.result c.from_residual.ensures.1 in
    rw (p.1, p.2) (rw (← c.in_err-judge_compact.was) (true_refused limit3 2 a.fc3.now T a.done.now (legs3 a.t_type) c.judge_compact.result c.judge_compact.ensures (refuses c.in_err-judge_compact.was)))

pub transpose-requires : goal.transpose-requires
transpose-requires c =
    let a = c.args in
    let T = given a.tables.now in
    true_ready limit3 2 a.fc3.now T a.done.now (legs3 a.t_type) c.judge_compact.result c.judge_compact.ensures (lit≤ tt) (passes c.in_ok-judge_compact.was)

pub returns : goal.returns
unfolding true_transpose_compact_fc3
returns c =
    let a = c.args in
    let T = given a.tables.now in
    true_done limit3 2 a.fc3.now T a.done.now (legs3 a.t_type) c.judge_compact.result c.judge_compact.ensures (passes c.in_ok-judge_compact.was) (c.transpose.ensures ∙ ap (λ t. swapped (shifts_of T) 2 (legs3 t) a.fc3.now) (to_z-of_z w64 a.t_type c.ranges.t_type)) c.clear.ensures
