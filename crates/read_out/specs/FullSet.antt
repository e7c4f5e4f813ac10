-- A compact set read out to the full one (document 02, A.11): the number for any legs stands at them. Assumes nothing.
use Rattle.std.specs.Prelude.{◌≡◌, ℕ, List, length}
use Rattle.std.proofs.Math.Path.{ap}
use Rattle.std.proofs.Common.{◌∙◌}
use Rattle.tables.specs.Shifts.{Shifts}
use Rattle.places.specs.Places.{Leg, Legs, read_out, fill, size, length-fill}
use Rattle.places.proofs.PlacesLaws.{read_out-fill}
use Rattle.places.specs.WholeLaws.{full_shifts, whole-laws, stored-whole}

module _ {A : Type 0} (z : A) where
  unfoldable pub full_set : Shifts → ℕ → List A → List A
  full_set S m set = fill (full_shifts S.n_satom) m (λ xs. read_out z S set xs)

  pub length-full : (S : Shifts) (m : ℕ) (set : List A) → length (full_set S m set) ≡ size (full_shifts S.n_satom) m
  unfolding full_set
  length-full S m set = length-fill (full_shifts S.n_satom) m _

  -- its read-out is the compact set's
  pub read-full : (S : Shifts) (m : ℕ) (set : List A) (xs : List Leg) → Legs (full_shifts S.n_satom) m xs → read_out z (full_shifts S.n_satom) (full_set S m set) xs ≡ read_out z S set xs
  unfolding full_set
  read-full S m set xs p =
      let n = S.n_satom in
      read_out-fill (full_shifts n) (whole-laws n) z m (λ xs. read_out z S set xs) xs p ∙ ap (read_out z S set) (stored-whole n xs p.1)

pub same_legs : (S : Shifts) (m : ℕ) (xs : List Leg) → Legs (full_shifts S.n_satom) m xs → Legs S m xs
unfolding full_shifts
same_legs S m xs p = p
