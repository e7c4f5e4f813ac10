use Rattle.std.proofs.lemmas.Result.{err_from_is_err_and}
use Rattle.tables.specs.Answers.{passes, refuses}
use mathlib.Core.Path.{sym, ◌∙◌}
use Rattle.fc2_compact.specs.CompactCallLaws.{ready_levels, symmetrize_refused, symmetrize_done}
use Rattle.fc2_compact.proofs.compact.perm_trans_symmetrize_compact_fc.Goals as goal

pub returns-in_err-judge_levels : goal.returns-in_err-judge_levels
returns-in_err-judge_levels c =
    let a = c.args in
    let p = err_from_is_err_and c.from_residual.result c.from_residual.ensures.1 in
    rw (p.1, p.2) (rw (← c.in_err-judge_levels.was) (symmetrize_refused a.fc.now _ a.done.now a.level c.judge_levels.ensures (refuses c.in_err-judge_levels.was)))

pub symmetrize-requires : goal.symmetrize-requires
symmetrize-requires c =
    let a = c.args in
    ready_levels a.fc.now _ a.done.now a.level c.judge_levels.ensures (passes c.in_ok-judge_levels.was)

pub returns : goal.returns
returns c =
    let a = c.args in
    symmetrize_done a.fc.now _ a.done.now a.level c.judge_levels.ensures (passes c.in_ok-judge_levels.was)
    c.symmetrize.ensures c.clear.ensures
