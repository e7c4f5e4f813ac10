use Rattle.std.proofs.lemmas.Result.{err_from_is_err_and}
use Rattle.tables.specs.Answers.{passes, refuses}
use mathlib.Core.Path.{sym, ap, ◌∙◌}
use mir.Syntax.{w64}
use mir.ValLaws.{to_z-of_z}
use Rattle.tables.specs.Compact.{shifts_of, given}
use Rattle.transposes_fc3.specs.Fc3.{transposed_by}
use Rattle.transposes_fc3.specs.Fc3Loops.{transpose_refused, transpose_ready, transpose_done}
use Rattle.transposes_fc3.proofs.transpose_compact_fc3.Goals as goal

pub returns-in_err-judge_compact : goal.returns-in_err-judge_compact
returns-in_err-judge_compact c =
    let a = c.args in
    let T = given a.tables.now in
    let p = err_from_is_err_and c.from_residual.result c.from_residual.ensures.1 in
    rw (p.1, p.2) (rw (← c.in_err-judge_compact.was) (transpose_refused a.fc3.now T a.done.now a.t_type c.judge_compact.result c.judge_compact.ensures (refuses c.in_err-judge_compact.was)))

pub transpose-requires : goal.transpose-requires
transpose-requires c =
    let a = c.args in
    let T = given a.tables.now in
    transpose_ready a.fc3.now T a.done.now a.t_type c.judge_compact.result c.judge_compact.ensures (passes c.in_ok-judge_compact.was)

pub returns : goal.returns
returns c =
    let a = c.args in
    let T = given a.tables.now in
    transpose_done a.fc3.now T a.done.now a.t_type c.judge_compact.result c.judge_compact.ensures (passes c.in_ok-judge_compact.was) (c.transpose.ensures ∙ ap (λ t. transposed_by (shifts_of T) t a.fc3.now) (to_z-of_z w64 a.t_type c.ranges.t_type)) c.clear.ensures
