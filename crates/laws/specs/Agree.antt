-- Compact and full agree on the grid (document 02, A.11): a set that is read out and then symmetrized has the bits of one that is symmetrized and
-- then read out, half shifts included. For any mean that does not turn on the order of its terms; on the grid those of third and fourth order are such.
-- Assumes nothing.
use Rattle.std.specs.Prelude.{◌≡◌, true, ℕ, ◌<◌, List, map, get_or, Float}
use Rattle.std.proofs.Math.Path.{sym, ap}
use Rattle.std.proofs.Common.{◌∙◌}
use Rattle.std.proofs.Math.ListN.{length}
use Rattle.std.specs.Float.Ieee.{nan}
use Rattle.lists.specs.Elements.{map_same}
use Rattle.lists.specs.Members.{In, in_all}
use Rattle.tables.specs.Shifts.{Shifts, Laws}
use Rattle.places.specs.Places.{Leg, Legs, read_out, length-fill}
use Rattle.places.proofs.PlacesLaws.{same-read_out}
use Rattle.places.specs.Permutations.{permute_legs, Permutation, taken_legs, Group}
use Rattle.places.specs.WholeLaws.{full_shifts, whole-laws}
use Rattle.orbits.specs.Symmetric.{symmetrized}
use Rattle.orbits.proofs.MeanLaws.{symmetrized_is_mean}
use Rattle.grid.specs.Grid.{on_grid}
use Rattle.laws.specs.Permuted.{Orders}
use Rattle.read_out.specs.FullSet.{full_set, length-full, read-full, same_legs}

module _ {A : Type 0} (z : A) (mean : List A → A) (m : ℕ) (os : Orders) (G : Group m os) where
  -- the numbers of the legs in every order
  abbrev pub values_of : Shifts → List A → List Leg → List A
  values_of S set xs = map (λ σ. read_out z S set (permute_legs σ xs)) os

  -- the mean does not turn on the order of the legs that it is worked out from
  abbrev pub Steady : Shifts → List A → Type 0
  Steady S set = (τ : List ℕ) → In τ os → (xs : List Leg) → Legs S m xs → mean (values_of S set (permute_legs τ xs)) ≡ mean (values_of S set xs)

  -- so the symmetrized number is the mean of the legs themselves, whichever of their orders it is worked out from
  pub symmetrized_is : (S : Shifts) → Laws S → (set : List A) → Steady S set → (xs : List Leg) → Legs S m xs → read_out z S (symmetrized z mean S m os set) xs ≡ mean (values_of S set xs)
  symmetrized_is S L set steady xs p =
      let M = symmetrized_is_mean z mean S L m os G set xs p in
      M.value ∙ steady M.τ M.is_one xs p

  -- THE TWO WAYS AGREE
  module _ (S : Shifts) (L : Laws S) (set : List A) (steady : Steady S set) where
    abbrev W : Shifts
    W = full_shifts S.n_satom

    values_full : (xs : List Leg) → Legs W m xs → values_of W (full_set z S m set) xs ≡ values_of S set xs
    values_full xs p =
        map_same (Permutation m) (λ σ. read_out z W (full_set z S m set) (permute_legs σ xs)) (λ σ. read_out z S set (permute_legs σ xs)) os
        (λ σ o. read-full z S m set (permute_legs σ xs) (taken_legs W m σ xs o p)) (in_all (Permutation m) os G.each)

    steady-full : Steady W (full_set z S m set)
    steady-full τ t xs p =
        ap mean (values_full (permute_legs τ xs) (taken_legs W m τ xs (G.each τ t) p)) ∙ steady τ t xs (same_legs S m xs p) ∙ sym (ap mean (values_full xs p))

    pub agrees : symmetrized z mean W m os (full_set z S m set) ≡ full_set z S m (symmetrized z mean S m os set)
    unfolding symmetrized
    agrees =
        same-read_out W (whole-laws S.n_satom) z m (symmetrized z mean W m os (full_set z S m set)) (full_set z S m (symmetrized z mean S m os set))
        (length-fill W m _) (length-full z S m (symmetrized z mean S m os set))
        (λ xs p.
        symmetrized_is W (whole-laws S.n_satom) (full_set z S m set) steady-full xs p
        ∙ ap mean (values_full xs p)
        ∙ sym (symmetrized_is S L set steady xs (same_legs S m xs p))
        ∙ sym (read-full z S m (symmetrized z mean S m os set) xs p))

-- ---- on the grid

abbrev pub GridSet : List Float → Type 0
GridSet set = (k : ℕ) → k < length set → on_grid (get_or set k nan) ≡ true
