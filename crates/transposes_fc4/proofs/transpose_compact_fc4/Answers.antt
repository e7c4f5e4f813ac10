use Rattle.std.proofs.lemmas.Result.{err_from_is_err_and}
use Rattle.tables.specs.Answers.{passes, refuses}
use mathlib.Core.Path.{ap, ◌∙◌}
use mir.Syntax.{w64}
use mir.ValLaws.{to_z-of_z}
use Rattle.tables.specs.Compact.{shifts_of, given}
use Rattle.transposes_fc4.specs.Fc4.{transposed_by4}
use Rattle.transposes_fc4.specs.Fc4LoopLaws.{transpose_refused, transpose_ready, transpose_done}
use Rattle.transposes_fc4.proofs.transpose_compact_fc4.Goals as goal

pub returns-in_err-judge_compact : goal.returns-in_err-judge_compact
returns-in_err-judge_compact c =
    let p = err_from_is_err_and c.from_residual.result c.from_residual.ensures.1 in
    rw (p.1, p.2) (rw (← c.in_err-judge_compact.was) (transpose_refused c.args.fc4.now _ c.args.done.now c.args.t_type c.judge_compact.result c.judge_compact.ensures (refuses c.in_err-judge_compact.was)))

pub by_type-requires : goal.by_type-requires
by_type-requires c =
    transpose_ready c.args.fc4.now _ c.args.done.now c.args.t_type c.judge_compact.result c.judge_compact.ensures (passes c.in_ok-judge_compact.was)

pub returns : goal.returns
returns c =
    transpose_done c.args.fc4.now _ c.args.done.now c.args.t_type c.judge_compact.result c.judge_compact.ensures (passes c.in_ok-judge_compact.was)
    (c.by_type.ensures ∙ ap (λ t. transposed_by4 (shifts_of (given c.args.tables.now)) t c.args.fc4.now) (to_z-of_z w64 c.args.t_type c.ranges.t_type)) c.clear.ensures
