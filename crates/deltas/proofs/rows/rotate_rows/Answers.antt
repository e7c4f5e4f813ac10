use mathlib.Core.Path.{◌≡◌, refl, ap₂, ◌∙◌}
use Prim.Native.Nat.{◌*◌}
use native.Mathlib.Omega.{arith}
use lib.ListN.{length}
use Rattle.lists.specs.Tab.{times, times_none, times_more}
use Rattle.deltas.specs.RotateDelta.{Deltas, deltas_of}
use Rattle.deltas.specs.Rows.{add_pair}
use Rattle.deltas.proofs.RowsLaws.{rows_all}
use Rattle.deltas.proofs.rows.rotate_rows.Goals as goal

pub loop-i-init : goal.loop-i-init
loop-i-init g c = (omega arith, refl, times_none _ _)

pub rotate_row-requires : goal.rotate_row-requires
rotate_row-requires g c =
    let l = c.loop-i in record { order = c.requires.order; ready = c.requires.ready; in_range = (omega arith, l.invariant.1 ∙ c.clear_floats.auto.w ∙ c.requires.in_range) }

pub loop-i-preserved : goal.loop-i-preserved
loop-i-preserved g c =
    let w = c.rotate_row in
    let l = c.loop-i in
    (omega arith, w.auto.res ∙ l.invariant.1, times_more l.i _ _ l.invariant.2 w.ensures)

pub returns : goal.returns
returns g c =
    let l = c.loop-i in
    let a = c.args in
    let D : Deltas = deltas_of a.deltas.now a.inv_u.now a.site_sym_cart.now a.rot_map_syms.now a.num_atom a.num_site_sym a.num_disp in
    let i : l.i ≡ a.num_atom = omega arith in
    l.invariant.2 ∙ ap₂ (λ k x. times k (λ i. times (a.num_disp * a.num_site_sym) (add_pair D g.S.Share.atoms i)) x) i c.clear_floats.ensures
    ∙ rows_all D g.S.Share.atoms (length a.res.now) (omega (arith, c.requires.order.1, g.S.Block.Order.some)) c.requires.in_range
