-- How a loop over blocks finds the first place: of the blocks of a group the first is enough, because the numbers of the others are compared there.
-- Assumes nothing.
use Rattle.std.specs.Prelude.{◌≡◌, false, List, ℕ, suc, ◌+◌, ◌*◌, ◌/◌, ◌<◌, get_or, Float}
use Rattle.std.proofs.Math.Path.{refl, sym, ap, ap₂}
use Rattle.std.proofs.Common.{◌∙◌}
use Rattle.std.specs.Float.{nan}
use Rattle.lists.specs.Members.{In, in_map, map_in}
use Rattle.lists.specs.Elements.{straight, pick-straight}
use Rattle.lists.specs.Digits.{times_power, quotient, remainder, in_row}
use Rattle.tables.specs.Shifts.{Shifts, Laws}
use Rattle.places.specs.Places.{stored, legs_at, address, place, at, read_out, size, in_block, stored_opened, opened_legs, place-place, address-place}
use Rattle.places.specs.Permutations.{permute_legs, Permutation, Group}
use Rattle.places.specs.Moves.{source}
use Rattle.blocks.specs.Permuted.{permuted}
use Rattle.orbits.specs.Counterparts.{across}
use Rattle.orbits.specs.Transposed.{counterpart, across_is, permuted_is_below, in_block_pos, size_blocks}
use Rattle.orbits.specs.Symmetric.{images}
use Rattle.orbits.specs.SymmetrizerLaws.{imgs}
use Rattle.audits.specs.Audit.{reads}

module _ (S : Shifts) (L : Laws S) (m : ℕ) (os : List (List ℕ)) (G : Group m os) (set : List Float) where
  -- where the number that a permutation reads stands
  unfoldable pub image_of : List ℕ → ℕ → ℕ
  image_of σ q = address S (stored S (permute_legs σ (legs_at S (place S m q))))

  pub reads-image : (q : ℕ) (σ : List ℕ) → reads S m os set q σ ≡ get_or set (image_of σ q) nan
  unfolding reads read_out at image_of
  reads-image q σ = refl

  pub image_in : (q : ℕ) (σ : List ℕ) → In σ os → In (image_of σ q) (imgs S L m os G q)
  unfolding images image_of
  image_in q σ s = in_map (λ σ. address S (stored S (permute_legs σ (legs_at S (place S m q))))) os σ s

  pub in_image : (q r : ℕ) → In r (imgs S L m os G q) → (σ : List ℕ) × In σ os × (r ≡ image_of σ q)
  unfolding images image_of
  in_image q r i = map_in (λ σ. address S (stored S (permute_legs σ (legs_at S (place S m q))))) os r i

  module _ (b k : ℕ) (hb : b < times_power S.n_satom m S.n_patom) (hk : k < in_block m) where
    pub place_in : b * in_block m + k < size S m
    place_in = rw (size_blocks S m) (in_row (times_power S.n_satom m S.n_patom) (in_block m) b k hb hk)

    -- the image of a place of block b stands in the block of the permuted atoms, at the permuted directions
    pub image_is : (σ : List ℕ) → Permutation m σ → image_of σ (b * in_block m + k) ≡ counterpart S m σ b * in_block m + permuted m σ k
    unfolding image_of across source
    image_is σ o =
        let q = b * in_block m + k in
        sym (across_is S L m σ o (λ b. false) q place_in)
        ∙ ap₂ (λ b k. counterpart S m σ b * in_block m + permuted m σ k) (quotient (in_block m) b k hk) (remainder (in_block m) b k hk)

    pub reads-block : (σ : List ℕ) → Permutation m σ → reads S m os set (b * in_block m + k) σ ≡ get_or set (counterpart S m σ b * in_block m + permuted m σ k) nan
    reads-block σ o = reads-image (b * in_block m + k) σ ∙ ap (λ r. get_or set r nan) (image_is σ o)

  -- the permutation that changes nothing leads to the block itself
  pub own_block : (b : ℕ) → b < times_power S.n_satom m S.n_patom → counterpart S m (straight (suc m)) b ≡ b
  own_block b hb =
      let c = in_block m in
      let hk = in_block_pos m in
      let o = G.each (straight (suc m)) G.plain in
      let q = b * c + 0 in
      let h = place_in b 0 hb hk in
      let e : image_of (straight (suc m)) q ≡ q =
      unfold image_of in
      (ap (λ xs. address S (stored S xs)) (pick-straight (0, 0) (suc m) (legs_at S (place S m q)) (opened_legs S L m (place S m q) (place-place S m q h)).0)
      ∙ ap (address S) (stored_opened S L m (place S m q) (place-place S m q h)) ∙ address-place S m q h) in
      sym (quotient c (counterpart S m (straight (suc m)) b) (permuted m (straight (suc m)) 0) (permuted_is_below m (straight (suc m)) 0 o hk))
      ∙ ap (λ r. r / c) (sym (image_is b 0 hb hk (straight (suc m)) o) ∙ e) ∙ quotient c b 0 hk
