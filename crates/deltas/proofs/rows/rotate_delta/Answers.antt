use Rattle.std.proofs.lemmas.Result.{err_from_is_err_and}
use Rattle.tables.specs.Answers.{passes, refuses}
use mathlib.Core.Path.{sym, ap, ◌∙◌, subst}
use Prim.Native.Nat.{ℕ}
use Rattle.deltas.specs.RotateDelta.{Deltas, deltas_of, rotated_deltas}
use Rattle.deltas.specs.Guard.{Ready, ready, refused, done_call}
use Rattle.deltas.proofs.rows.rotate_delta.Goals as goal

pub returns-in_err-judge_deltas : goal.returns-in_err-judge_deltas
returns-in_err-judge_deltas g c =
    let p = err_from_is_err_and c.from_residual.result c.from_residual.ensures.1 in
    rw (p.1, p.2) (rw (← c.in_err-judge_deltas.was) (refused _ c.args.m _ _ _ _ c.judge_deltas.ensures (refuses c.in_err-judge_deltas.was)))

pub rotate_rows-requires : goal.rotate_rows-requires
rotate_rows-requires g c =
    let a = c.args in
    let D : Deltas = deltas_of a.deltas.now a.inv_u.now a.site_sym_cart.now a.rot_map_syms.now a.num_atom a.num_site_sym a.num_disp in
    let j = c.judge_deltas in
    let d = c.in_ok-judge_deltas.was in
    let (R, l) = ready _ a.m _ _ _ c.requires.counts.0 (sym j.ensures ∙ d) in record { order = (c.requires.order.1, c.requires.order.2); ready = subst (λ (m : ℕ). Ready D m) c.requires.order.0 R; in_range = l.result_length ∙ rw c.requires.order.0 }

pub returns : goal.returns
returns g c =
    let a = c.args in
    let D : Deltas = deltas_of a.deltas.now a.inv_u.now a.site_sym_cart.now a.rot_map_syms.now a.num_atom a.num_site_sym a.num_disp in
    let j = c.judge_deltas in
    done_call _ a.m _ _ _ j.result j.ensures (passes c.in_ok-judge_deltas.was) (c.rotate_rows.ensures ∙ ap (rotated_deltas D) (sym c.requires.order.0)) c.clear_floats.ensures
