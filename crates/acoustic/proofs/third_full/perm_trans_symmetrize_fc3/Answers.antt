use Rattle.std.proofs.lemmas.Result.{err_from_is_err_and}
use Rattle.tables.specs.Answers.{passes, refuses}
use mathlib.Core.Path.{sym, ap, ◌∙◌}
use lib.Dec.{lit≤}
use lib.ListN.{replicate}
use Rattle.lists.specs.Floats.{plus_zero}
use Rattle.tables.specs.Limits.{limit3}
use Rattle.places.specs.Places.{perms3}
use Rattle.orbits.specs.Symmetric.{mean6}
use Rattle.acoustic.specs.Calls.{full-refused, full-room, full-done}
use Rattle.acoustic.proofs.third_full.perm_trans_symmetrize_fc3.Goals as goal

pub returns-in_err-judge : goal.returns-in_err-judge
returns-in_err-judge c =
    let a = c.args in
    let p = err_from_is_err_and c.from_residual.result c.from_residual.ensures.1 in
    rw (p.1, p.2) (rw (← c.in_err-judge.was) (full-refused limit3 2 mean6 perms3 a.fc3.now a.num_atom a.drift.now a.level c.judge.ensures (refuses c.in_err-judge.was)))

pub full_symmetrize-requires : goal.full_symmetrize-requires
full_symmetrize-requires c =
    let a = c.args in
    full-room limit3 2 mean6 perms3 a.fc3.now a.num_atom a.drift.now a.level c.judge.ensures (lit≤ tt) (passes c.in_ok-judge.was)

pub returns : goal.returns
returns c =
    let a = c.args in
    full-done limit3 2 mean6 perms3 a.fc3.now a.num_atom a.drift.now a.level c.judge.ensures (passes c.in_ok-judge.was)
    c.full_symmetrize.ensures (c.clear_floats.ensures ∙ ap (λ m. replicate m plus_zero) c.full_symmetrize.auto.drift)
