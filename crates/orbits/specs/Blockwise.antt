-- A place block by block: its block depends on the atoms only, its position in the block on the directions only. Assumes nothing.
use Rattle.std.specs.Prelude.{◌≡◌, refl}
use Rattle.std.proofs.Math.Path.{sym, ap}
use Rattle.std.proofs.Common.{◌∙◌}
use Prim.Native.Nat.{ℕ, suc, ◌/◌, ◌<◌}
use mathlib.Core.List.{List, [], ◌∷◌, map}
use Rattle.std.proofs.Math.ListN.{length}
use Rattle.std.proofs.lemmas.List.{length-map}
use Rattle.lists.specs.Digits.{horner, times_power, rest, digits, rest_div, rest_horner, rest_below, length_digits}
use Rattle.tables.specs.Shifts.{Shifts, row, p2s_at, s2pp_at, nsym_at}
use Rattle.places.specs.Places.{Leg, atom, dir, Place, shift, stored, legs_at, address, place, size, size_rooms, dirs_below, atoms-legs_of, dirs_legs_of}
unfoldable pub use Rattle.places.specs.Places.{in_block}

-- ---- the block of an address: it depends on the atoms only

unfoldable pub block_atoms : Shifts → List ℕ → ℕ
block_atoms S [] = 0
block_atoms S (a ∷ bs) = horner S.n_satom a bs

unfoldable pub stored_atoms : Shifts → List ℕ → List ℕ
stored_atoms S [] = []
stored_atoms S (a ∷ bs) = s2pp_at S a ∷ map (row S (nsym_at S a)) bs

pub atoms-shift : (S : Shifts) (t : ℕ) (xs : List Leg) → map atom (shift S t xs) ≡ map (row S t) (map atom xs)
unfolding shift
atoms-shift S t [] = refl
atoms-shift S t (x ∷ xs) = ap (λ l. row S t (atom x) ∷ l) (atoms-shift S t xs)

pub atoms-stored : (S : Shifts) (xs : List Leg) → map atom (stored S xs) ≡ stored_atoms S (map atom xs)
unfolding stored stored_atoms
atoms-stored S [] = refl
atoms-stored S (x ∷ xs) = ap (λ l. s2pp_at S (atom x) ∷ l) (atoms-shift S (nsym_at S (atom x)) xs)

unfoldable pub opened_atoms : Shifts → List ℕ → List ℕ
opened_atoms S [] = []
opened_atoms S (a ∷ bs) = p2s_at S a ∷ bs

pub atoms_opened : (S : Shifts) (ys : List Leg) → map atom (legs_at S ys) ≡ opened_atoms S (map atom ys)
unfolding legs_at opened_atoms
atoms_opened S [] = refl
atoms_opened S (y ∷ ys) = refl

module _ (S : Shifts) (m : ℕ) where
  pub address-block : (ys : List Leg) → Place S m ys → address S ys / in_block m ≡ block_atoms S (map atom ys)
  unfolding address in_block block_atoms
  address-block [] p = absurd p
  address-block (y ∷ ys) p =
      let ds = dir y ∷ map dir ys in
      let l : length ds ≡ suc m = ap suc (length-map ys dir ∙ p.0) in
      sym (rest_div 3 (suc m) (address S (y ∷ ys))) ∙ (rw l at (rest_horner 3 (horner S.n_satom (atom y) (map atom ys)) ds (p.2, dirs_below S m ys p.3)))

  -- the atoms at an address come from its block
  pub atoms_of_lem : (q : ℕ) → map atom (place S m q) ≡ rest S.n_satom m (q / in_block m) ∷ digits S.n_satom m (q / in_block m)
  unfolding place in_block
  atoms_of_lem q =
      atoms-legs_of (rest S.n_satom m (rest 3 (suc m) q) ∷ digits S.n_satom m (rest 3 (suc m) q)) (digits 3 (suc m) q)
      (ap suc (length_digits S.n_satom m (rest 3 (suc m) q)) ∙ sym (length_digits 3 (suc m) q))
      ∙ ap (λ b. rest S.n_satom m b ∷ digits S.n_satom m b) (rest_div 3 (suc m) q)

  pub atoms-place : (q r : ℕ) → q / in_block m ≡ r / in_block m → map atom (place S m q) ≡ map atom (place S m r)
  atoms-place q r e = atoms_of_lem q ∙ ap (λ b. rest S.n_satom m b ∷ digits S.n_satom m b) e ∙ sym (atoms_of_lem r)

  pub block-below : (q : ℕ) → q < size S m → q / in_block m < times_power S.n_satom m S.n_patom
  unfolding in_block
  block-below q h = rw (rest_div 3 (suc m) q) at (rest_below 3 (suc m) (times_power S.n_satom m S.n_patom) q (rw (size_rooms S m) at h))

-- the directions of stored and opened legs are those of the legs
dirs_shift : (S : Shifts) (t : ℕ) (xs : List Leg) → map dir (shift S t xs) ≡ map dir xs
unfolding shift
dirs_shift S t [] = refl
dirs_shift S t (x ∷ xs) = ap (λ l. dir x ∷ l) (dirs_shift S t xs)

pub dirs_stored : (S : Shifts) (xs : List Leg) → map dir (stored S xs) ≡ map dir xs
unfolding stored
dirs_stored S [] = refl
dirs_stored S (x ∷ xs) = ap (λ l. dir x ∷ l) (dirs_shift S (nsym_at S (atom x)) xs)

pub dirs_opened : (S : Shifts) (ys : List Leg) → map dir (legs_at S ys) ≡ map dir ys
unfolding legs_at
dirs_opened S [] = refl
dirs_opened S (y ∷ ys) = refl

-- an address is that of its atoms' block and then the directions
pub address_is : (S : Shifts) (m : ℕ) (ys : List Leg) → Place S m ys → address S ys ≡ horner 3 (block_atoms S (map atom ys)) (map dir ys)
unfolding address block_atoms
address_is S m [] p = absurd p
address_is S m (y ∷ ys) p = refl

-- the atoms of a block, and the directions at an address
unfoldable pub atoms_at : Shifts → ℕ → ℕ → List ℕ
atoms_at S m b = rest S.n_satom m b ∷ digits S.n_satom m b

pub dirs_of : (S : Shifts) (m q : ℕ) → map dir (place S m q) ≡ digits 3 (suc m) q
unfolding place
dirs_of S m q =
    dirs_legs_of (rest S.n_satom m (rest 3 (suc m) q) ∷ digits S.n_satom m (rest 3 (suc m) q)) (digits 3 (suc m) q)
    (ap suc (length_digits S.n_satom m (rest 3 (suc m) q)) ∙ sym (length_digits 3 (suc m) q))
