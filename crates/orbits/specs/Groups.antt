-- A group of blocks as a program works on it: the block of each permutation, the spots at which the permutations' terms of one mean stand, the means of
-- a block, and the means written to all their spots. Assumes nothing.
use Rattle.std.specs.Prelude.{◌≡◌, false, Float}
use Rattle.std.proofs.Math.Path.{refl, sym, ap, ap₂}
use Rattle.std.proofs.Common.{◌∙◌, arith}
use Prim.Native.Nat.{ℕ, zero, suc, ◌+◌, ◌*◌, ◌/◌, ◌%◌, ◌≤◌, ◌<◌}
use mathlib.Core.List.{List, [], ◌∷◌, map}
use Rattle.std.proofs.Math.ListN.{get_or}
use Rattle.std.specs.Float.Ieee.{nan}
use Rattle.lists.specs.Tab.{tab, get_or-tab, times}
use Rattle.lists.specs.Elements.{All, map_same}
use Rattle.lists.specs.Digits.{times_power, quotient, remainder, in_row}
use Rattle.lists.specs.Members.{in_all}
use Rattle.tables.specs.Shifts.{Shifts, Laws}
use Rattle.places.specs.Places.{stored, legs_at, address, place, size}
use Rattle.places.specs.Permutations.{permute_legs, Permutation, Group}
use Rattle.places.specs.Moves.{source}
use Rattle.orbits.specs.Blockwise.{in_block}
use Rattle.orbits.specs.Counterparts.{across}
use Rattle.orbits.specs.Transposed.{counterpart, across_is, permuted_is_below, in_block_pos, size_blocks}
use Rattle.blocks.specs.Permuted.{permuted}
use Rattle.orbits.specs.Symmetric.{images}
use Rattle.orbits.specs.SymmetrizerLaws.{imgs, groups}
use Rattle.orbits.specs.Spread.{set_all, mean_of, spread, blocks_of}

-- the blocks of the group of block n, one for each permutation
unfoldable pub group_blocks : Shifts → ℕ → List (List ℕ) → ℕ → List ℕ
group_blocks S m os n = map (λ σ. counterpart S m σ n) os

-- b is none of the blocks
abbrev pub Apart : ℕ → List ℕ → Type 0
Apart b bs = All (λ a. a ≡ b → ⊥) bs

abbrev pub Distinct : List ℕ → Type 0
Distinct [] = Unit {0}
Distinct (b ∷ bs) = Apart b bs × Distinct bs

-- where the terms of the mean at position k of the first block stand: in the block of each permutation, at the position permuted by it
unfoldable pub spots : ℕ → List (List ℕ) → List ℕ → ℕ → List ℕ
spots m [] bs k = []
spots m (σ ∷ os) [] k = []
spots m (σ ∷ os) (b ∷ bs) k = (b * in_block m + permuted m σ k) ∷ spots m os bs k

-- the means of all positions
unfoldable pub mean_block : (List Float → Float) → ℕ → List (List ℕ) → List ℕ → List Float → List Float
unfolding spots
mean_block mean m os bs xs = tab (in_block m) (λ k. mean (map (λ r. get_or xs r nan) (spots m os bs k)))

-- the numbers of v written to their spots, position after position: where spots coincide, the last one holds
unfoldable pub spread_block : ℕ → List (List ℕ) → List ℕ → List Float → List Float → List Float
unfolding spots
spread_block m os bs v xs = times (in_block m) (λ k. set_all (spots m os bs k) (get_or v k nan)) xs

-- ---- that is what the mean of a group is made of

module _ (S : Shifts) (L : Laws S) (m : ℕ) (os : List (List ℕ)) (G : Group m os) where
  -- the addresses of the legs at q in every permutation
  pub images_are : (q : ℕ) → q < size S m → imgs S L m os G q ≡ map (λ σ. counterpart S m σ (q / in_block m) * in_block m + permuted m σ (q % in_block m)) os
  unfolding images across source
  images_are q h =
      map_same (Permutation m) (λ σ. address S (stored S (permute_legs σ (legs_at S (place S m q))))) (λ σ. counterpart S m σ (q / in_block m) * in_block m + permuted m σ (q % in_block m)) os
      (λ σ o. sym (across_is S L m σ o (λ b. false) q h)) (in_all (Permutation m) os G.each)

  spots_are : (n k : ℕ) (rs : List (List ℕ)) → spots m rs (group_blocks S m rs n) k ≡ map (λ σ. counterpart S m σ n * in_block m + permuted m σ k) rs
  unfolding spots group_blocks
  spots_are n k [] = refl
  spots_are n k (σ ∷ rs) = ap (λ l. (counterpart S m σ n * in_block m + permuted m σ k) ∷ l) (spots_are n k rs)

  module _ (n : ℕ) (hn : n < times_power S.n_satom m S.n_patom) where
    place-below : (k : ℕ) → k < in_block m → n * in_block m + k < size S m
    place-below k h = rw (size_blocks S m) (in_row (times_power S.n_satom m S.n_patom) (in_block m) n k hn h)

    pub images-spots : (k : ℕ) → k < in_block m → imgs S L m os G (n * in_block m + k) ≡ spots m os (group_blocks S m os n) k
    images-spots k h =
        images_are (n * in_block m + k) (place-below k h)
        ∙ ap₂ (λ b j. map (λ σ. counterpart S m σ b * in_block m + permuted m σ j) os) (quotient (in_block m) n k h) (remainder (in_block m) n k h)
        ∙ sym (spots_are n k os)

    -- the group worked out and written
    spread-to : (mean : List Float → Float) (xs : List Float) (k : ℕ) → k ≤ in_block m
        → spread nan mean (in_block m) (imgs S L m os G) xs n k
        ≡ times k (λ j. set_all (spots m os (group_blocks S m os n) j) (get_or (mean_block mean m os (group_blocks S m os n) xs) j nan)) xs
    unfolding spread times mean_of mean_block
    spread-to mean xs zero h = refl
    spread-to mean xs (suc k) h =
        let bs = group_blocks S m os n in
        let e = images-spots k h in
        ap₂ (λ a l. set_all a (mean (map (λ r. get_or xs r nan) (imgs S L m os G (n * in_block m + k)))) l) e (spread-to mean xs k (omega arith))
        ∙ ap (λ v. set_all (spots m os bs k) v (times k (λ j. set_all (spots m os bs j) (get_or (tab (in_block m) (λ k. mean (map (λ r. get_or xs r nan) (spots m os bs k)))) j nan)) xs))
        (ap (λ l. mean (map (λ r. get_or xs r nan) l)) e ∙ sym (get_or-tab (in_block m) (λ k. mean (map (λ r. get_or xs r nan) (spots m os bs k))) k nan h))

    pub spread_is : (mean : List Float → Float) (xs : List Float)
        → spread nan mean (in_block m) (imgs S L m os G) xs n (in_block m) ≡ spread_block m os (group_blocks S m os n) (mean_block mean m os (group_blocks S m os n) xs) xs
    unfolding spread_block
    spread_is mean xs = spread-to mean xs (in_block m) (omega arith)

    -- the blocks that are marked
    pub marked_are : blocks_of (groups S L m os G) n ≡ group_blocks S m os n
    unfolding group_blocks
    marked_are = ap (map (λ r. r / in_block m)) (start n ∙ images-spots 0 (in_block_pos m) ∙ spots_are n 0 os) ∙ each os (in_all (Permutation m) os G.each)
      where
        start : (n : ℕ) → imgs S L m os G (n * in_block m) ≡ imgs S L m os G (n * in_block m + 0)
        start n = ap (imgs S L m os G) (omega arith)

        each : (rs : List (List ℕ)) → All (Permutation m) rs → map (λ r. r / in_block m) (map (λ σ. counterpart S m σ n * in_block m + permuted m σ 0) rs) ≡ map (λ σ. counterpart S m σ n) rs
        each [] o = refl
        each (σ ∷ rs) o = ap₂ ◌∷◌ (quotient (in_block m) (counterpart S m σ n) (permuted m σ 0) (permuted_is_below m σ 0 o.0 (in_block_pos m))) (each rs o.1)
