use Rattle.std.proofs.lemmas.Result.{err_from_is_err_and}
use Rattle.tables.specs.Answers.{passes, refuses}
use mathlib.Core.Path.{sym, ◌∙◌}
use lib.Dec.{lit≤}
use Rattle.fc3.specs.FullLoops.{full-refused, full-ready, full-done}
use Rattle.fc3.proofs.full.set_permutation_symmetry_fc3.Goals as goal

pub judge_full-requires : goal.judge_full-requires
judge_full-requires c = (lit≤ tt, lit≤ tt)

pub returns-in_err-judge_full : goal.returns-in_err-judge_full
returns-in_err-judge_full c =
    let a = c.args in
    let p = err_from_is_err_and c.from_residual.result c.from_residual.ensures.1 in
    rw (p.1, p.2) (rw (← c.in_err-judge_full.was) (full-refused a.fc3.now a.num_atom c.judge_full.result c.judge_full.ensures (refuses c.in_err-judge_full.was)))

pub symmetrize-requires : goal.symmetrize-requires
symmetrize-requires c =
    let a = c.args in
    full-ready a.fc3.now a.num_atom c.judge_full.result c.judge_full.ensures (passes c.in_ok-judge_full.was)

pub returns : goal.returns
returns c =
    let a = c.args in
    full-done a.fc3.now a.num_atom c.judge_full.result c.judge_full.ensures (passes c.in_ok-judge_full.was) c.symmetrize.ensures
