use Rattle.std.proofs.lemmas.Result.{err_from_is_err_and}
use Rattle.tables.specs.Answers.{passes, refuses}
use mathlib.Core.Path.{sym, ◌∙◌}
use Rattle.fc3.specs.Loops.{symmetrize_refused, symmetrize_ready, symmetrize_done}
use Rattle.fc3.proofs.compact.set_permutation_symmetry_compact_fc3.Goals as goal

pub returns-in_err-judge_compact : goal.returns-in_err-judge_compact
returns-in_err-judge_compact c =
    let a = c.args in
    let p = err_from_is_err_and c.from_residual.result c.from_residual.ensures.1 in
    rw (p.1, p.2) (rw (← c.in_err-judge_compact.was) (symmetrize_refused a.fc3.now _ a.done.now c.judge_compact.result c.judge_compact.ensures (refuses c.in_err-judge_compact.was)))

pub symmetrize-requires : goal.symmetrize-requires
symmetrize-requires c =
    let a = c.args in
    symmetrize_ready a.fc3.now _ a.done.now c.judge_compact.result c.judge_compact.ensures (passes c.in_ok-judge_compact.was)

pub returns : goal.returns
returns c =
    let a = c.args in
    symmetrize_done a.fc3.now _ a.done.now c.judge_compact.result c.judge_compact.ensures (passes c.in_ok-judge_compact.was) c.symmetrize.ensures.0 c.symmetrize.ensures.1
