-- What `rotate_delta_fc2s` and `rotate_delta_fc3s` leave, number by number. Assumes nothing.
use Rattle.std.specs.Prelude.{◌≡◌, refl, List, ℕ, ◌+◌, ◌*◌, ◌/◌, ◌%◌, ◌^◌, ◌<◌, get_or, Float}
use Rattle.std.proofs.Common.{sym, ◌∙◌}
use Rattle.std.proofs.Math.Path.{ap}
use Rattle.std.specs.Float.{nan}
use Rattle.lists.specs.Tab.{get_or-tab}
use Rattle.lists.specs.Digits.{in_row}
use Rattle.blocks.specs.Block.{block, block_of_lem, place_of}
use Rattle.tables.specs.Lengths.{set_length, slab_length}
use Rattle.rotations.specs.Rotation.{rotated}
use Rattle.deltas.specs.RotateDelta.{Deltas, delta_total, rotated_delta, summed, number, rotated_deltas}
use Rattle.deltas.specs.Rows.{image_of, source-next, source_of_one}

-- Number (k, p) of block b, k the direction of the displaced atom: row k of invU times number p of the rotated deltas, summed over the pairs.
pub result_number : (D : Deltas) (m b k p : ℕ) → b < D.num_atom ^ m → k < 3 → p < 3 ^ m
    → get_or (rotated_deltas D m) (b * (3 * 3 ^ m) + (k * 3 ^ m + p)) nan ≡ summed D m (delta_total D) b k p
unfolding rotated_deltas
result_number D m b k p hb hk hp =
    let w = 3 ^ m in
    let h = in_row 3 w k p hk hp in
    get_or-tab (set_length 1 D.num_atom m) (number D m) (b * (3 * w) + (k * w + p)) nan (rw (slab_length D.num_atom m) (in_row (D.num_atom ^ m) (3 * w) b (k * w + p) hb h))
    ∙ rw (block_of_lem (3 * w) b (k * w + p) h, place_of (3 * w) b (k * w + p) h, block_of_lem w k p hp, place_of w k p hp) refl

-- The rotated delta of pair n, displacement n / numSiteSym with site symmetry s = n % numSiteSym: that displacement's block for the images of the atoms
-- under s, rotated by s.
module _ (D : Deltas) (n i j l : ℕ) (hi : i < D.num_atom) (hj : j < D.num_atom) (hl : l < D.num_atom) where
  abbrev a : ℕ
  a = D.num_atom

  abbrev R : List Float
  R = block 9 (n % D.num_site_sym) D.site_sym_cart

  pub second : rotated_delta D 2 n (i * a + j) ≡ rotated R 2 (block 9 ((n / D.num_site_sym * a + image_of D n i) * a + image_of D n j) D.deltas)
  unfolding rotated_delta
  second =
      ap (λ b. rotated R 2 (block 9 b D.deltas)) (source-next D n 1 i j hj ∙ ap (λ x. x * a + image_of D n j) (sym (source_of_one D n i hi)))

  pub third : rotated_delta D 3 n ((i * a + j) * a + l)
      ≡ rotated R 3 (block 27 (((n / D.num_site_sym * a + image_of D n i) * a + image_of D n j) * a + image_of D n l) D.deltas)
  unfolding rotated_delta
  third =
      ap (λ b. rotated R 3 (block 27 b D.deltas))
      (source-next D n 2 (i * a + j) l hl
      ∙ ap (λ x. x * a + image_of D n l) (source-next D n 1 i j hj ∙ ap (λ x. x * a + image_of D n j) (sym (source_of_one D n i hi))))
