-- The read-out block by block: the number for atoms and directions stands in the stored block of the atoms, at the position of the directions. For every
-- rank at once. Assumes nothing.
use Rattle.std.specs.Prelude.{◌≡◌, refl, ℕ, suc, ◌+◌, ◌*◌, ◌%◌, ◌<◌, length}
use Rattle.std.proofs.Common.{sym, ap₂, ◌∙◌, suc-ne-zero, lit<}
use Rattle.std.proofs.Math.Path.{ap}
use mathlib.Core.List.{List, [], ◌∷◌, map}
use Rattle.std.proofs.Math.Nat.{suc_inj, mod-lt}
use native.Mathlib.Omega.{arith}
use Rattle.std.proofs.Math.ListN.{get_or}
use Rattle.lists.specs.Digits.{horner, times_power, rest, digits, length_digits, horner-digits, rest_below, horner-split, digits_mod, room_is_pos}
use Rattle.tables.specs.Shifts.{Shifts, row, s2pp_at, nsym_at}
use Rattle.places.specs.Places.{Leg, atom, dir, shift, stored, address, legs_of, at, read_out, in_block, atoms-legs_of, dirs_legs_of}
use Rattle.places.specs.Addresses.{stored_block}

-- the stored block of a list of atoms
unfoldable pub block_of : Shifts → List ℕ → ℕ
block_of S [] = 0
block_of S (a ∷ js) = stored_block S a js

shift-atoms : (S : Shifts) (t : ℕ) (xs : List Leg) → map atom (shift S t xs) ≡ map (row S t) (map atom xs)
unfolding shift
shift-atoms S t [] = refl
shift-atoms S t (x ∷ xs) = ap (λ l. row S t (atom x) ∷ l) (shift-atoms S t xs)

shift_dirs : (S : Shifts) (t : ℕ) (xs : List Leg) → map dir (shift S t xs) ≡ map dir xs
unfolding shift
shift_dirs S t [] = refl
shift_dirs S t (x ∷ xs) = ap (λ l. dir x ∷ l) (shift_dirs S t xs)

module _ {A : Type 0} (z : A) (S : Shifts) (set : List A) where
  read-block : (ks ds : List ℕ) → length ks ≡ length ds → read_out z S set (legs_of ks ds) ≡ get_or set (block_of S ks * times_power 3 (length ds) 1 + horner 3 0 ds) z
  unfolding legs_of read_out at stored address block_of horner times_power stored_block
  read-block [] [] e = let w : 0 ≡ 0 * 1 + 0 = omega arith in ap (λ q. get_or set q z) w
  read-block [] (d ∷ ds) e = absurd (suc-ne-zero _ (sym e))
  read-block (a ∷ ks) [] e = absurd (suc-ne-zero _ e)
  read-block (a ∷ ks) (d ∷ ds) e =
      let l = suc_inj e in
      let t = nsym_at S a in
      ap (λ q. get_or set q z)
      (ap₂ (λ js es. horner 3 (horner S.n_satom (s2pp_at S a) js) (d ∷ es))
      (shift-atoms S t (legs_of ks ds) ∙ ap (map (row S t)) (atoms-legs_of ks ds l)) (shift_dirs S t (legs_of ks ds) ∙ dirs_legs_of ks ds l)
      ∙ horner-split 3 (horner S.n_satom (s2pp_at S a) (map (row S t) ks)) (d ∷ ds))

  -- the directions at position k of a block
  position_back : (m k : ℕ) → horner 3 0 (digits 3 (suc m) k) ≡ k % in_block m
  unfolding in_block
  position_back m k =
      let c = times_power 3 (suc m) 1 in
      let r = k % c in
      let h : r < c = mod-lt k (room_is_pos 3 (suc m) 1 (lit< tt) (lit< tt)) in
      let o : rest 3 (suc m) r ≡ 0 = let t = rest_below 3 (suc m) 1 r h in omega arith in
      ap (horner 3 0) (digits_mod 3 (suc m) k (lit< tt)) ∙ ap (λ n. horner 3 n (digits 3 (suc m) r)) (sym o) ∙ horner-digits 3 (suc m) r

  pub read_at_lem : (m k : ℕ) (ks : List ℕ) → length ks ≡ suc m → read_out z S set (legs_of ks (digits 3 (suc m) k)) ≡ get_or set (block_of S ks * in_block m + k % in_block m) z
  read_at_lem m k ks e =
      let l = length_digits 3 (suc m) k in
      read-block ks (digits 3 (suc m) k) (e ∙ sym l)
      ∙ ap₂ (λ n p. get_or set (block_of S ks * times_power 3 n 1 + p) z) l (position_back m k)
      ∙ (unfold in_block in refl)
