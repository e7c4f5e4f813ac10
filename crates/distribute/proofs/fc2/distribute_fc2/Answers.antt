use Rattle.std.proofs.lemmas.Result.{err_from_is_err_and}
use Rattle.tables.specs.Answers.{passes, refuses}
use mathlib.Core.Path.{sym, ap, ◌∙◌}
use lib.IntN.{pos}
use lib.ListN.{replicate}
use Rattle.distribute.specs.Fc2Laws.{ready, placing, refused, done_call}
use Rattle.distribute.proofs.fc2.distribute_fc2.Goals as goal

pub returns-in_err-judge_distribute_fc2 : goal.returns-in_err-judge_distribute_fc2
returns-in_err-judge_distribute_fc2 c =
    let p = err_from_is_err_and c.from_residual.result c.from_residual.ensures.1 in
    rw (p.1, p.2) (rw (← c.in_err-judge_distribute_fc2.was) (refused _ _ _ _ _ _ c.judge_distribute_fc2.ensures (refuses c.in_err-judge_distribute_fc2.was)))

pub place_atoms-requires : goal.place_atoms-requires
place_atoms-requires c =
    let j = c.judge_distribute_fc2 in
    let d = c.in_ok-judge_distribute_fc2.was in
    let (R, l) = ready _ _ _ _ _ (sym j.ensures ∙ d) in
    let t = placing l R in
    record { index_table = t.0; atom_list_len_bound = t.1 }

pub distribute_atoms-requires : goal.distribute_atoms-requires
distribute_atoms-requires c =
    let j = c.judge_distribute_fc2 in
    let d = c.in_ok-judge_distribute_fc2.was in
    let (R, l) = ready _ _ _ _ _ (sym j.ensures ∙ d) in
    let p = c.place_atoms in record { in_range = p.auto.atom_list_reverse ∙ l; placed = p.ensures; ready = R }

pub returns : goal.returns
returns c =
    let j = c.judge_distribute_fc2 in
    let d = c.in_ok-judge_distribute_fc2.was in
    let (R, l) = ready _ _ _ _ _ (sym j.ensures ∙ d) in
    let p = c.place_atoms in
    done_call _ _ _ _ _ j.result j.ensures (passes c.in_ok-judge_distribute_fc2.was) c.distribute_atoms.ensures
    (c.clear.ensures ∙ ap (λ n. replicate n (pos 0)) (p.auto.atom_list_reverse ∙ l))
