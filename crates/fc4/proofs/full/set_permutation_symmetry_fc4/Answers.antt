use Rattle.std.proofs.lemmas.Result.{err_from_is_err_and}
use Rattle.tables.specs.Answers.{passes, refuses}
use mathlib.Core.Path.{sym, ◌∙◌}
use Rattle.fc4.specs.Loops.{full-refused, full-ready, full-done}
use Rattle.fc4.proofs.full.set_permutation_symmetry_fc4.Goals as goal

pub returns-in_err-judge : goal.returns-in_err-judge
returns-in_err-judge c =
    let p = err_from_is_err_and c.from_residual.result c.from_residual.ensures.1 in
    rw (p.1, p.2) (rw (← c.in_err-judge.was) (full-refused c.args.fc4.now c.args.done.now c.args.num_atom c.judge.result c.judge.ensures (refuses c.in_err-judge.was)))

pub full_blocks-requires : goal.full_blocks-requires
full_blocks-requires c =
    (rw c.clear.auto.w (full-ready c.args.fc4.now c.args.done.now c.args.num_atom c.judge.result c.judge.ensures (passes c.in_ok-judge.was)), c.addresses-t.ensures)

pub returns : goal.returns
returns c =
    full-done c.args.fc4.now c.args.done.now c.args.num_atom c.judge.result c.judge.ensures (passes c.in_ok-judge.was)
    c.clear.ensures c.full_blocks.ensures c.clear-2.ensures c.full_blocks.auto.done
