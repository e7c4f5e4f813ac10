-- Compact and full agree on the grid at third and fourth order: what specs/Agree.antt says of any mean, of the two means there are. Assumes nothing.
use Rattle.std.specs.Prelude.{◌≡◌, true, ℕ, ◌≤◌, ◌<◌, List, [], ◌∷◌, map, Float}
use Rattle.std.proofs.Math.Path.{refl, sym, ap}
use Rattle.std.proofs.Common.{◌∙◌, arith}
use Rattle.std.proofs.Math.ListN.{length}
use Rattle.std.proofs.lemmas.List.{length-map}
use Rattle.std.specs.Float.Ieee.{nan}
use Rattle.lists.specs.Elements.{All, all_map, map_same, pick, pick-pick}
use Rattle.lists.specs.Members.{In, in_all}
use Rattle.tables.specs.Shifts.{Shifts, Laws}
use Rattle.places.specs.Places.{Leg, Legs, stored, address, at, read_out, size, stored-place, address_below}
use Rattle.places.specs.Permutations.{permute_legs, Permutation, taken_legs, Group, perms3, perms4, six-group, twenty_four_group}
use Rattle.places.specs.WholeLaws.{full_shifts}
use Rattle.orbits.specs.Symmetric.{symmetrized, mean6}
use Rattle.grid.specs.Grid.{on_grid}
use Rattle.laws.specs.Means.{mean6-same, mean24-same, SameTotals}
use Rattle.fc4.specs.Mean24.{mean24}
use Rattle.laws.specs.Permuted.{Orders, afterwards, reordered, total-after, six-reordered, twenty_four_reordered}
use Rattle.read_out.specs.FullSet.{full_set}
use Rattle.laws.specs.Agree.{values_of, agrees, GridSet}

map-map : {A B C : Type 0} (f : B → C) (g : A → B) (l : List A) → map f (map g l) ≡ map (λ x. f (g x)) l
map-map f g [] = refl
map-map f g (x ∷ xs) = ap (λ l. f (g x) ∷ l) (map-map f g xs)

module _ (S : Shifts) (L : Laws S) (m : ℕ) (os : Orders) (G : Group m os) (re : reordered os ≡ true) (set : List Float) (l : length set ≡ size S m) (g : GridSet set) where
  grid-read : (xs : List Leg) → Legs S m xs → on_grid (read_out nan S set xs) ≡ true
  unfolding read_out at
  grid-read xs p =
      let h : address S (stored S xs) < length set = rw l (address_below S m (stored S xs) (stored-place S L m xs p)) in
      g (address S (stored S xs)) h

  -- the numbers of the legs in another order are the same numbers in another sequence
  values_after : (τ : List ℕ) → In τ os → (xs : List Leg) → Legs S m xs
      → values_of nan (λ l. nan) m os G S set (permute_legs τ xs) ≡ map (λ σ. read_out nan S set (permute_legs σ xs)) (afterwards τ os)
  unfolding afterwards
  values_after τ t xs p =
      map_same (Permutation m) (λ σ. read_out nan S set (permute_legs σ (permute_legs τ xs))) (λ σ. read_out nan S set (permute_legs (pick 0 σ τ) xs)) os
      (λ σ o. ap (read_out nan S set) (pick-pick (0, 0) σ τ xs (rw (G.each τ t).0 o.1))) (in_all (Permutation m) os G.each)
      ∙ sym (map-map (λ σ. read_out nan S set (permute_legs σ xs)) (λ σ. pick 0 σ τ) os)

  pub totals_after : (τ : List ℕ) → In τ os → (xs : List Leg) → SameTotals (map (λ σ. read_out nan S set (permute_legs σ xs)) (afterwards τ os)) (map (λ σ. read_out nan S set (permute_legs σ xs)) os)
  totals_after τ t xs =
      let v : List ℕ → Float = λ σ. read_out nan S set (permute_legs σ xs) in
      record { ups = total-after os re τ t _ v; downs = total-after os re τ t _ v; propers = total-after os re τ t _ v }

  pub grid_values : (τ : List ℕ) → In τ os → (xs : List Leg) → Legs S m xs → All (λ x. on_grid x ≡ true) (map (λ σ. read_out nan S set (permute_legs σ xs)) (afterwards τ os))
  unfolding afterwards
  grid_values τ t xs p =
      all_map (Permutation m) (λ x. on_grid x ≡ true) (λ σ. read_out nan S set (permute_legs σ xs)) (map (λ σ. pick 0 σ τ) os)
      (λ σ o. grid-read (permute_legs σ xs) (taken_legs S m σ xs o p))
      (all_map (λ σ. In σ os) (Permutation m) (λ σ. pick 0 σ τ) os (λ σ s. G.each (pick 0 σ τ) (G.closed σ τ s t)) (in_all (λ σ. In σ os) os (λ σ i. i)))

  pub grid_plain : (xs : List Leg) → Legs S m xs → All (λ x. on_grid x ≡ true) (map (λ σ. read_out nan S set (permute_legs σ xs)) os)
  grid_plain xs p = all_map (Permutation m) (λ x. on_grid x ≡ true) (λ σ. read_out nan S set (permute_legs σ xs)) os (λ σ o. grid-read (permute_legs σ xs) (taken_legs S m σ xs o p)) (in_all (Permutation m) os G.each)

-- third order
pub agrees3 : (S : Shifts) → Laws S → (set : List Float) → length set ≡ size S 2 → GridSet set
    → symmetrized nan mean6 (full_shifts S.n_satom) 2 perms3 (full_set nan S 2 set) ≡ full_set nan S 2 (symmetrized nan mean6 S 2 perms3 set)
agrees3 S L set l g = agrees nan mean6 2 perms3 six-group S L set steady
  where
    steady : (τ : List ℕ) → In τ perms3 → (xs : List Leg) → Legs S 2 xs
        → mean6 (map (λ σ. read_out nan S set (permute_legs σ (permute_legs τ xs))) perms3) ≡ mean6 (map (λ σ. read_out nan S set (permute_legs σ xs)) perms3)
    steady τ t xs p =
        ap mean6 (values_after S L 2 perms3 six-group six-reordered set l g τ t xs p)
        ∙ (unfold perms3 afterwards in
        mean6-same _ _ _ _ _ _ (grid_values S L 2 perms3 six-group six-reordered set l g τ t xs p) (grid_plain S L 2 perms3 six-group six-reordered set l g xs p) (omega arith) (omega arith)
        (totals_after S L 2 perms3 six-group six-reordered set l g τ t xs))

-- fourth order
pub agrees4 : (S : Shifts) → Laws S → (set : List Float) → length set ≡ size S 3 → GridSet set
    → symmetrized nan mean24 (full_shifts S.n_satom) 3 perms4 (full_set nan S 3 set) ≡ full_set nan S 3 (symmetrized nan mean24 S 3 perms4 set)
agrees4 S L set l g = agrees nan mean24 3 perms4 twenty_four_group S L set steady
  where
    count : length perms4 ≡ 24
    count = unfold perms4 in refl

    steady : (τ : List ℕ) → In τ perms4 → (xs : List Leg) → Legs S 3 xs
        → mean24 (map (λ σ. read_out nan S set (permute_legs σ (permute_legs τ xs))) perms4) ≡ mean24 (map (λ σ. read_out nan S set (permute_legs σ xs)) perms4)
    steady τ t xs p =
        ap mean24 (values_after S L 3 perms4 twenty_four_group twenty_four_reordered set l g τ t xs p)
        ∙ mean24-same (map (λ σ. read_out nan S set (permute_legs σ xs)) (afterwards τ perms4)) (map (λ σ. read_out nan S set (permute_legs σ xs)) perms4)
        (grid_values S L 3 perms4 twenty_four_group twenty_four_reordered set l g τ t xs p) (grid_plain S L 3 perms4 twenty_four_group twenty_four_reordered set l g xs p)
        (few (afterwards τ perms4) after-count) (few perms4 count)
        (totals_after S L 3 perms4 twenty_four_group twenty_four_reordered set l g τ t xs)
      where
        after-count : length (afterwards τ perms4) ≡ 24
        after-count = unfold afterwards in (length-map perms4 (λ σ. pick 0 σ τ) ∙ count)

        few : (l : Orders) → length l ≡ 24 → length (map (λ σ. read_out nan S set (permute_legs σ xs)) l) ≤ 1024
        few l e = let h = length-map l (λ σ. read_out nan S set (permute_legs σ xs)) in omega arith
