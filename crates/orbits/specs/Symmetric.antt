-- The symmetrizers, for every rank at once: what each place holds afterwards, and that all permutations of any legs then read out the same.
-- `os` lists the permutations of the legs, in the order of the sum's terms; `mean` makes one number of those reads. Assumes nothing.
use Rattle.std.specs.Prelude.{◌≡◌, ℕ, ◌/◌, get_or, Float}
use Rattle.std.proofs.Math.Path.{sym, ap}
use Rattle.std.proofs.Common.{◌∙◌, eq-eqb}
use mathlib.Core.List.{List, [], ◌∷◌, map}
use Rattle.std.proofs.Math.Dec.{eqb}
use Rattle.std.specs.Float.{nan, binary64}
use Rattle.std.specs.Float.Ieee.{div, of_bits}
use Rattle.tables.specs.Shifts.{Shifts, Laws}
use Rattle.lists.specs.Floats.{sum_from}
use Rattle.lists.specs.Elements.{pick, pick-pick, map_same}
use Rattle.lists.specs.Members.{In, Sub, in_all, keep, in_keep, keep_in, in_map, map_in, map-sub, least, greatest, least_in, greatest_in, least-same, greatest-same}
use Rattle.places.specs.Places.{Leg, Legs, stored, legs_at, address, place, read_out, fill, in_block, permute_legs}
use Rattle.places.proofs.PlacesLaws.{read_out-fill}
use Rattle.places.specs.Permutations.{Permutation, taken_legs, Group}
use Rattle.places.specs.Moves.{source, source-stored}

-- ---- what a place holds afterwards

-- the addresses of the legs in each of the permutations
unfoldable pub images : Shifts → List (List ℕ) → List Leg → List ℕ
images S os xs = map (λ σ. address S (stored S (permute_legs σ xs))) os

-- the first block, in loop order, in which one of the addresses lies
unfoldable pub first_block : ℕ → List ℕ → ℕ
first_block c qs = least (map (λ q. q / c) qs)

-- Of the addresses that lie in the first block, the last: its directions are the last in loop order that write the place.
unfoldable pub leader : ℕ → List ℕ → ℕ
leader c qs = greatest (keep (λ q. eqb (q / c) (first_block c qs)) qs)

-- It is one of the addresses that lie in the first block.
module _ (c : ℕ) (qs : List ℕ) (a : ℕ) (h : In a qs) where
  pub leader-kept : In (leader c qs) (keep (λ q. eqb (q / c) (first_block c qs)) qs)
  unfolding leader first_block
  leader-kept =
      let bs = map (λ q. q / c) qs in
      let (q, i, e) = map_in (λ q. q / c) qs (least bs) (least_in bs (a / c) (in_map (λ q. q / c) qs a h)) in
      greatest_in (keep (λ q. eqb (q / c) (least bs)) qs) q (in_keep (λ q. eqb (q / c) (least bs)) qs q i (eq-eqb (q / c) (least bs) (sym e)))

module _ {A : Type 0} (z : A) (mean : List A → A) where
  -- the mean worked out from the legs at an address
  unfoldable pub mean_at : Shifts → ℕ → List (List ℕ) → List A → ℕ → A
  mean_at S m os set q = mean (map (λ r. get_or set r z) (images S os (legs_at S (place S m q))))

  -- the set symmetrized
  unfoldable pub symmetrized : Shifts → ℕ → List (List ℕ) → List A → List A
  symmetrized S m os set = fill S m (λ ys. mean_at S m os set (leader (in_block m) (images S os (legs_at S ys))))

-- The mean of third order. The sum begins with the first number, so that six times -0.0 gives -0.0; divided by 6.0.
abbrev pub mean6 : List Float → Float
mean6 [] = nan
mean6 (x ∷ xs) = div binary64 (sum_from x xs) (of_bits binary64 0x4018_0000_0000_0000)

-- ---- demand 3: all permutations of any legs read out the same

-- what the leader is depends on which addresses there are, not on how they are listed
pub leader-same : (c : ℕ) (l k : List ℕ) → Sub l k → Sub k l → leader c l ≡ leader c k
unfolding leader first_block
leader-same c l k s t =
    let e : first_block c l ≡ first_block c k = least-same (map (λ q. q / c) l) (map (λ q. q / c) k) (map-sub (λ q. q / c) l k s) (map-sub (λ q. q / c) k l t) in
    ap (λ f. greatest (keep (λ q. eqb (q / c) f) l)) e
    ∙ greatest-same (keep (λ q. eqb (q / c) (first_block c k)) l) (keep (λ q. eqb (q / c) (first_block c k)) k) (kept l k s) (kept k l t)
  where
    kept : (a b : List ℕ) → Sub a b → Sub (keep (λ q. eqb (q / c) (first_block c k)) a) (keep (λ q. eqb (q / c) (first_block c k)) b)
    kept a b h q i =
        let (j, e) = keep_in (λ q. eqb (q / c) (first_block c k)) a q i in
        in_keep (λ q. eqb (q / c) (first_block c k)) b q (h q j) e

module _ (S : Shifts) (L : Laws S) (m : ℕ) (os : List (List ℕ)) (G : Group m os) where
  -- the addresses of permuted legs are the same addresses
  pub images-sub : (τ : List ℕ) (xs : List Leg) → In τ os → Legs S m xs → Sub (images S os (permute_legs τ xs)) (images S os xs)
  unfolding images
  images-sub τ xs t p q i =
      let (σ, h, e) = map_in (λ σ. address S (stored S (permute_legs σ (permute_legs τ xs)))) os q i in
      rw (e, pick-pick (0, 0) σ τ xs (rw (G.each τ t).0 (G.each σ h).1))
      (in_map (λ σ. address S (stored S (permute_legs σ xs))) os (pick 0 σ τ) (G.closed σ τ h t))

  pub images_sup : (τ : List ℕ) (xs : List Leg) → In τ os → Legs S m xs → Sub (images S os xs) (images S os (permute_legs τ xs))
  unfolding images
  images_sup τ xs t p q i =
      let (ρ, h, e) = map_in (λ σ. address S (stored S (permute_legs σ xs))) os q i in
      let (σ, k, f) = G.solved ρ τ h t in
      rw (e, ← f, ← pick-pick (0, 0) σ τ xs (rw (G.each τ t).0 (G.each σ k).1))
      (in_map (λ σ. address S (stored S (permute_legs σ (permute_legs τ xs)))) os σ k)

  -- nor do they depend on a shift
  pub images-stored : (xs : List Leg) → Legs S m xs → images S os (legs_at S (stored S xs)) ≡ images S os xs
  unfolding images source
  images-stored xs p =
      map_same (Permutation m) (λ σ. address S (stored S (permute_legs σ (legs_at S (stored S xs))))) (λ σ. address S (stored S (permute_legs σ xs))) os
      (λ σ o. ap (address S) (source-stored S L m σ xs o p)) (in_all (Permutation m) os G.each)

  module _ {A : Type 0} (z : A) (mean : List A → A) where
    pub symmetric : (set : List A) (τ : List ℕ) (xs : List Leg) → In τ os → Legs S m xs
        → read_out z S (symmetrized z mean S m os set) (permute_legs τ xs) ≡ read_out z S (symmetrized z mean S m os set) xs
    unfolding symmetrized
    symmetric set τ xs t p =
        let q = taken_legs S m τ xs (G.each τ t) p in
        let f : List Leg → A = λ ys. mean_at z mean S m os set (leader (in_block m) (images S os (legs_at S ys))) in
        read_out-fill S L z m f (permute_legs τ xs) q
        ∙ ap (mean_at z mean S m os set)
        (ap (leader (in_block m)) (images-stored (permute_legs τ xs) q)
        ∙ leader-same (in_block m) (images S os (permute_legs τ xs)) (images S os xs) (images-sub τ xs t p) (images_sup τ xs t p)
        ∙ ap (leader (in_block m)) (sym (images-stored xs p)))
        ∙ sym (read_out-fill S L z m f xs p)
