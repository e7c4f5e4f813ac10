use Rattle.std.proofs.lemmas.Result.{err_from_is_err_and}
use Rattle.tables.specs.Answers.{passes, refuses}
use mathlib.Core.Path.{sym, ◌∙◌}
use Rattle.tables.specs.Limits.{limit2}
use Rattle.orbits.specs.TrueTransposes.{true_transpose_compact_fc2}
use Rattle.orbits.specs.Moved.{true_refused, true_done}
use Rattle.fc2_compact.specs.CompactCallLaws.{ready_when}
use Rattle.fc2_compact.proofs.compact.true_transpose_compact_fc2.Goals as goal

pub returns-in_err-judge : goal.returns-in_err-judge
unfolding true_transpose_compact_fc2
returns-in_err-judge c =
    let a = c.args in
    let p = err_from_is_err_and c.from_residual.result c.from_residual.ensures.1 in
    rw (p.1, p.2) (rw (← c.in_err-judge.was) (true_refused limit2 1 a.fc.now _ a.done.now (0, 1) _ c.judge.ensures (refuses c.in_err-judge.was)))

pub transpose_pass-requires : goal.transpose_pass-requires
transpose_pass-requires c =
    let a = c.args in
    ready_when a.fc.now _ a.done.now c.judge.ensures (passes c.in_ok-judge.was)

pub returns : goal.returns
unfolding true_transpose_compact_fc2
returns c =
    let a = c.args in
    true_done limit2 1 a.fc.now _ a.done.now (0, 1) _ c.judge.ensures (passes c.in_ok-judge.was)
    c.transpose_pass.ensures c.clear.ensures
