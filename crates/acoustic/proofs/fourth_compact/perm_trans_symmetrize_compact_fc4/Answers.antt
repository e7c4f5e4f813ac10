use Rattle.std.proofs.lemmas.Result.{err_from_is_err_and}
use Rattle.tables.specs.Answers.{passes, refuses}
use mathlib.Core.Path.{sym, ap, ◌∙◌}
use lib.ListN.{length, replicate}
use Rattle.lists.specs.Floats.{plus_zero}
use Rattle.tables.specs.Limits.{limit4}
use Rattle.places.specs.Places.{perms4}
use Rattle.fc4.specs.Mean24.{mean24}
use Rattle.acoustic.specs.Calls.{compact_refused, compact_done}
use Rattle.acoustic.specs.Fourth.{compact_passes}
use Rattle.acoustic.proofs.fourth_compact.perm_trans_symmetrize_compact_fc4.Goals as goal

pub returns-in_err-judge : goal.returns-in_err-judge
returns-in_err-judge c =
    let a = c.args in
    let p = err_from_is_err_and c.from_residual.result c.from_residual.ensures.1 in
    rw (p.1, p.2) (rw (← c.in_err-judge.was) (compact_refused limit4 3 mean24 perms4 a.fc4.now _ a.done.now a.drift.now a.level c.judge.ensures (refuses c.in_err-judge.was)))

pub all_levels-requires : goal.all_levels-requires
all_levels-requires c =
    let a = c.args in
    compact_passes limit4 3 (length a.fc4.now) (length a.done.now) (length a.drift.now) _ a.level c.judge.ensures (passes c.in_ok-judge.was)

pub returns : goal.returns
returns c =
    let a = c.args in
    compact_done limit4 3 mean24 perms4 a.fc4.now _ a.done.now a.drift.now a.level c.judge.ensures (passes c.in_ok-judge.was)
    c.all_levels.ensures (c.clear.ensures ∙ ap (λ m. replicate m 0) c.all_levels.auto.done) (c.clear_floats.ensures ∙ ap (λ m. replicate m plus_zero) c.all_levels.auto.drift)
