use Rattle.std.proofs.lemmas.Result.{err_from_is_err_and}
use Rattle.tables.specs.Answers.{passes, refuses}
use mathlib.Core.Path.{sym, ap, ◌∙◌}
use lib.ListN.{replicate}
use Rattle.lists.specs.Floats.{plus_zero}
use Rattle.tables.specs.Limits.{limit3}
use Rattle.places.specs.Places.{perms3}
use Rattle.orbits.specs.Symmetric.{mean6}
use Rattle.acoustic.specs.Calls.{compact_refused, compact_work, compact_done}
use Rattle.acoustic.proofs.third_compact.perm_trans_symmetrize_compact_fc3.Goals as goal

pub returns-in_err-judge : goal.returns-in_err-judge
returns-in_err-judge c =
    let a = c.args in
    let p = err_from_is_err_and c.from_residual.result c.from_residual.ensures.1 in
    rw (p.1, p.2) (rw (← c.in_err-judge.was) (compact_refused limit3 2 mean6 perms3 a.fc3.now _ a.done.now a.drift.now a.level c.judge.ensures (refuses c.in_err-judge.was)))

pub all_levels-requires : goal.all_levels-requires
all_levels-requires c =
    let a = c.args in
    compact_work limit3 2 mean6 perms3 a.fc3.now _ a.done.now a.drift.now a.level c.judge.ensures (passes c.in_ok-judge.was)

pub returns : goal.returns
returns c =
    let a = c.args in
    compact_done limit3 2 mean6 perms3 a.fc3.now _ a.done.now a.drift.now a.level c.judge.ensures (passes c.in_ok-judge.was)
    c.all_levels.ensures (c.clear.ensures ∙ ap (λ m. replicate m 0) c.all_levels.auto.done) (c.clear_floats.ensures ∙ ap (λ m. replicate m plus_zero) c.all_levels.auto.drift)
