-- A block of 81 numbers in which pairs of numbers change places where they stand, one pair after another. Assumes nothing.
use Rattle.std.specs.Prelude.{◌≡◌, cond, List, ℕ, zero, suc, ◌+◌, ◌*◌, ◌/◌, ◌%◌, ◌≤◌, ◌<◌, eqb, set, Float}
use Rattle.std.proofs.Math.Path.{refl, ap, sym}
use Rattle.std.proofs.Common.{◌∙◌, arith, lit<, length-set, get_or-set_same, get_or-set_other, eq-eqb, ne_eqb}
use Rattle.std.proofs.Math.Logic.{⊎_elim}
use Rattle.std.proofs.Math.Numerals.{add-one}
use Rattle.std.proofs.Math.Nat.{div-add-mod', mod-lt}
use Rattle.std.proofs.Math.ListN.{length, get_or}
use Rattle.std.proofs.Math.Seq.{ext_get_or}
use Rattle.std.specs.Float.Ieee.{nan}
use Rattle.lists.specs.Cases.{eq_or_ne}
use Rattle.lists.specs.Tab.{tab, get_or-tab, tab_ext}
use Rattle.blocks.specs.Block.{block, put_block, length-put_block, get_or-block, put-inside, put-outside, block_of_lem}
use Rattle.blocks.specs.Permuted.{permuted, permuted_block}
use Rattle.places.specs.Moves.{order4}
use Rattle.orbits.specs.Trading.{the_other}
use Rattle.orbits.specs.BlockPairs.{joined_pair, joined_block}

-- where the number at position k comes from if it came from f k, and then those at p and q changed places
abbrev pub traded_at : ℕ → ℕ → (ℕ → ℕ) → ℕ → ℕ
traded_at p q f = λ k. cond (eqb k q) (f p) (cond (eqb k p) (f q) (f k))

-- where it comes from once n pairs have changed places, pair i of them at positions i and i + 27 of m
unfoldable pub from_pairs : List ℕ → ℕ → ℕ → ℕ
from_pairs m zero = λ k. k
from_pairs m (suc n) = traded_at (get_or m n 0) (get_or m (n + 27) 0) (from_pairs m n)

-- 27 pairs of positions of a block
abbrev pub Inside54 : List ℕ → Type 0
Inside54 m = (n : ℕ) → n < 54 → get_or m n 0 < 81

-- those that exchange its first two directions
abbrev pub FirstTwo : List ℕ → Type 0
FirstTwo m = (k : ℕ) → k < 81 → from_pairs m 27 k ≡ permuted 3 (order4 0) k

-- the numbers of block b of ys come from the positions f 0, f 1, .. of block b of xs, and no other number has changed
pub record Permuted (f : ℕ → ℕ) (b : ℕ) (xs ys : List Float) : Type 0 where
  pub long : length ys ≡ length xs
  pub below : (j : ℕ) → j < 81 → f j < 81
  pub here : (j : ℕ) → j < 81 → get_or ys (b * 81 + j) nan ≡ get_or xs (b * 81 + f j) nan
  pub left : (q : ℕ) → (q / 81 ≡ b → ⊥) → get_or ys q nan ≡ get_or xs q nan

module _ (b : ℕ) (xs : List Float) (hb : b * 81 + 81 ≤ length xs) where
  two-traded : (f : ℕ → ℕ) (p q : ℕ) → p < 81 → q < 81 → (ys : List Float) → Permuted f b xs ys
      → Permuted (traded_at p q f) b xs (set (set ys (b * 81 + p) (get_or ys (b * 81 + q) nan)) (b * 81 + q) (get_or ys (b * 81 + p) nan))
  two-traded f p q hp hq ys W =
      let u = get_or ys (b * 81 + q) nan in
      let v = get_or ys (b * 81 + p) nan in
      let zs = set ys (b * 81 + p) u in
      let hx : b * 81 + p < length ys = rw W.long (omega (arith, hb, hp)) in
      let hy : b * 81 + q < length zs = rw (length-set ys (b * 81 + p) u, W.long) (omega (arith, hb, hq)) in
      record {
        long = length-set zs (b * 81 + q) v ∙ length-set ys (b * 81 + p) u ∙ W.long;
        below = λ j h. ⊎_elim
            (λ (e : j ≡ q). rw (eq-eqb j q e) (W.below p hp))
            (λ (e : j ≡ q → ⊥). ⊎_elim
            (λ (d : j ≡ p). rw (ne_eqb j q e, eq-eqb j p d) (W.below q hq))
            (λ (d : j ≡ p → ⊥). rw (ne_eqb j q e, ne_eqb j p d) (W.below j h))
            (eq_or_ne j p))
            (eq_or_ne j q);
        here = λ j h. ⊎_elim
            (λ (e : j ≡ q).
            ap (λ j. get_or (set zs (b * 81 + q) v) (b * 81 + j) nan) e ∙ get_or-set_same zs (b * 81 + q) v nan hy ∙ W.here p hp ∙ sym (rw (eq-eqb j q e) refl))
            (λ (e : j ≡ q → ⊥).
            get_or-set_other zs (b * 81 + q) (b * 81 + j) v nan (λ i. e (omega (arith, i)))
            ∙ ⊎_elim
            (λ (d : j ≡ p).
            ap (λ j. get_or zs (b * 81 + j) nan) d ∙ get_or-set_same ys (b * 81 + p) u nan hx ∙ W.here q hq ∙ sym (rw (ne_eqb j q e, eq-eqb j p d) refl))
            (λ (d : j ≡ p → ⊥).
            get_or-set_other ys (b * 81 + p) (b * 81 + j) u nan (λ i. d (omega (arith, i))) ∙ W.here j h ∙ sym (rw (ne_eqb j q e, ne_eqb j p d) refl))
            (eq_or_ne j p))
            (eq_or_ne j q);
        left = λ r n.
            get_or-set_other zs (b * 81 + q) r v nan (λ i. n (ap (λ r. r / 81) i ∙ block_of_lem 81 b q hq))
            ∙ get_or-set_other ys (b * 81 + p) r u nan (λ i. n (ap (λ r. r / 81) i ∙ block_of_lem 81 b p hp)) ∙ W.left r n;
      }

  pub all-permuted : (f : ℕ → ℕ) {ys : List Float} → Permuted f b xs ys → ys ≡ put_block 81 b (permuted_block 81 f (block 81 b xs)) xs
  unfolding permuted_block
  all-permuted f {ys} W =
      let v = tab 81 (λ k. get_or (block 81 b xs) (f k) nan) in
      ext_get_or nan ys (put_block 81 b v xs) (W.long ∙ sym (length-put_block 81 b v xs)) (λ q hq.
      let h : q < length xs = rw W.long at hq in
      let hp : q % 81 < 81 = mod-lt q (lit< tt) in
      ⊎_elim
      (λ (e : q / 81 ≡ b).
      let i : b * 81 + q % 81 ≡ q = ap (λ n. n * 81 + q % 81) (sym e) ∙ div-add-mod' q 81 in
      ap (λ q. get_or ys q nan) (sym i) ∙ W.here (q % 81) hp
      ∙ sym (put-inside 81 b v xs q h e ∙ get_or-tab 81 (λ k. get_or (block 81 b xs) (f k) nan) (q % 81) nan hp ∙ get_or-block 81 b xs (f (q % 81)) (W.below (q % 81) hp)))
      (λ (n : q / 81 ≡ b → ⊥). W.left q n ∙ sym (put-outside 81 b v xs q h n))
      (eq_or_ne (q / 81) b))

  -- the loop over pairs
  module _ (m : List ℕ) (I : Inside54 m) where
    pub none-traded : Permuted (from_pairs m 0) b xs xs
    unfolding from_pairs
    none-traded = record { long = refl; below = λ j h. h; here = λ j h. refl; left = λ q n. refl }

    pub one-traded : (n : ℕ) → n < 27 → (ys : List Float) → Permuted (from_pairs m n) b xs ys → {x y : ℕ} → x ≡ b * 81 + get_or m n 0 → y ≡ b * 81 + get_or m (n + 27) 0
        → Permuted (from_pairs m (n + 1)) b xs (set (set ys x (get_or ys y nan)) y (get_or ys x nan))
    unfolding from_pairs
    one-traded n h ys W ex ey = rw (ex, ey, add-one n) (two-traded (from_pairs m n) (get_or m n 0) (get_or m (n + 27) 0) (I n (omega arith)) (I (n + 27) (omega arith)) ys W)

-- blocks that change places by positions that are the same
pub same-positions : (s t : ℕ → ℕ) → ((k : ℕ) → k < 81 → s k ≡ t k) → (b c : ℕ) (xs : List Float) → joined_pair the_other 81 s b c xs ≡ joined_pair the_other 81 t b c xs
unfolding joined_pair joined_block
same-positions s t e b c xs =
    let turn : (v : List Float) → tab 81 (λ k. get_or v (s k) nan) ≡ tab 81 (λ k. get_or v (t k) nan) = λ v. tab_ext nan 81 _ _ (λ k h. ap (λ q. get_or v q nan) (e k h)) in
    ap (λ x. put_block 81 c x (put_block 81 b (tab 81 (λ k. get_or (block 81 c xs) (s k) nan)) xs)) (turn (block 81 b xs))
    ∙ ap (λ y. put_block 81 c (tab 81 (λ k. get_or (block 81 b xs) (t k) nan)) (put_block 81 b y xs)) (turn (block 81 c xs))
