use mathlib.Core.Path.{◌≡◌, sym, ap, ap₂, ◌∙◌, subst}
use Prim.Native.Nat.{ℕ, suc, ◌+◌, ◌*◌, ◌%◌, ◌^◌, ◌<◌, ◌≤◌}
use native.Mathlib.Omega.{arith}
use lib.ListN.{length}
use mathlib.Core.List.{List}
use lib.Ieee.{Float}
use Rattle.blocks.specs.Block.{block}
use Rattle.blocks.specs.Inside.{BlocksIn}
use Rattle.tables.specs.Conditions.{index_at, Readable}
use Rattle.rotations.specs.Rotation.{coefficients, rotated}
use Rattle.deltas.specs.RotateDelta.{Deltas, deltas_of, delta_source}
use Rattle.deltas.specs.Rows.{spread, add_pair, source_of_one, spread_shares}
use Rattle.deltas.specs.Guard.{Images, pair, target_inside, source-inside}
use Rattle.deltas.proofs.rows.add_pair.Goals as goal

pub column_of-s-requires : goal.column_of-s-requires
column_of-s-requires g c = (pair c.requires.ready c.args.n c.requires.in_range.1).some

pub row_of-d-requires : goal.row_of-d-requires
row_of-d-requires g c = (pair c.requires.ready c.args.n c.requires.in_range.1).some

pub read9-requires : goal.read9-requires
read9-requires g c = rw c.column_of-s.ensures (pair c.requires.ready c.args.n c.requires.in_range.1).symmetry_fits

pub overflow_mul-num_disp : goal.overflow_mul-num_disp
overflow_mul-num_disp g c = omega (arith, (pair c.requires.ready c.args.n c.requires.in_range.1).total-few)

pub column-u-requires : goal.column-u-requires
column-u-requires g c = (c.requires.in_range.1, c.requires.ready.inverse-length)

pub entry-image-requires : goal.entry-image-requires
entry-image-requires g c =
    let a = c.args in
    subst (λ (x : ℕ). Readable a.rot_map_syms.now (x * a.num_atom + a.i)) (sym c.column_of-s.ensures) ((pair c.requires.ready a.n c.requires.in_range.1).images.image-at a.i c.requires.in_range.0).0

pub index_of-from-requires : goal.index_of-from-requires
index_of-from-requires g c =
    let a = c.args in
    let t = pair c.requires.ready a.n c.requires.in_range.1 in
    let h : c.entry-image.result < a.num_atom = rw (c.entry-image.ensures, c.column_of-s.ensures) (t.images.image-at a.i c.requires.in_range.0).1 in
    let d : c.row_of-d.result * a.num_atom ≤ 262144 = rw c.row_of-d.ensures t.displacement_few in
    omega (arith, t.images.few)

pub coefficients-requires : goal.coefficients-requires
coefficients-requires g c = omega (arith, g.S.Block.Order.small)

pub share-requires : goal.share-requires
share-requires g c =
    let a = c.args in
    let k = g.S.Share.atoms in
    let t = pair c.requires.ready a.n c.requires.in_range.1 in
    let D : Deltas = deltas_of a.deltas.now a.inv_u.now a.site_sym_cart.now a.rot_map_syms.now a.num_atom a.num_site_sym a.num_disp in
    let y = c.column_of-s.ensures in
    let f : c.index_of-from.result ≡ delta_source D a.n 1 a.i =
    c.index_of-from.ensures
    ∙ ap₂ (λ x z. x * a.num_atom + z) c.row_of-d.ensures (c.entry-image.ensures ∙ ap (λ x. index_at a.rot_map_syms.now (x * a.num_atom + a.i)) y)
    ∙ source_of_one D a.n a.i c.requires.in_range.0 in
    let z : 0 < a.num_atom = omega (arith, c.requires.in_range.0) in (
      omega (arith, g.S.Block.Order.small),
      (
        subst (λ (x : ℕ). Images a.rot_map_syms.now (x * a.num_atom) a.num_atom) (sym y) t.images,
        (
          subst (λ (w : ℕ). BlocksIn a.num_atom (3 * w) k a.i (length a.res.now)) (sym c.requires.order.1) (target_inside D k a.i _ c.requires.in_range.0 c.requires.in_range.2),
          subst (λ (w : ℕ). BlocksIn a.num_atom w k c.index_of-from.result (length a.deltas.now)) (sym c.requires.order.1) (source-inside D k a.n a.i _ c.requires.ready c.requires.in_range.1 z f),
        ),
      ),
    )

pub returns : goal.returns
unfolding add_pair
returns g c =
    let a = c.args in
    let b = g.S.Block.Order in
    let k = g.S.Share.atoms in
    let D : Deltas = deltas_of a.deltas.now a.inv_u.now a.site_sym_cart.now a.rot_map_syms.now a.num_atom a.num_site_sym a.num_disp in
    let R = block 9 (a.n % a.num_site_sym) a.site_sym_cart.now in
    let y = c.column_of-s.ensures in
    let f : c.index_of-from.result ≡ delta_source D a.n 1 a.i =
    c.index_of-from.ensures
    ∙ ap₂ (λ x z. x * a.num_atom + z) c.row_of-d.ensures (c.entry-image.ensures ∙ ap (λ x. index_at a.rot_map_syms.now (x * a.num_atom + a.i)) y)
    ∙ source_of_one D a.n a.i c.requires.in_range.0 in
    let ec = c.coefficients.ensures ∙ ap (λ x. coefficients x b.legs b.width) (c.read9.ensures ∙ ap (λ x. block 9 x a.site_sym_cart.now) y) in
    let spread_of : ℕ → ℕ → ℕ → List Float = λ s m w. spread (λ j. index_at a.rot_map_syms.now (s * a.num_atom + j)) a.num_atom w c.column-u.result (rotated R m) a.deltas.now k a.i c.index_of-from.result a.res.now in
    c.share.ensures R ec
    ∙ ap₂ (spread_of c.column_of-s.result) c.requires.order.0 c.requires.order.1
    ∙ ap (λ s. spread_of s (suc k) (3 ^ suc k)) y
    ∙ spread_shares D (suc k) a.n c.column-u.result c.column-u.ensures 1 k a.i _ a.res.now (omega arith) f
