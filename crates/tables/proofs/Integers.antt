-- The program holds an i64 by its bits; `to_z-of_z` says that what it reads back is the number itself.
-- Assumes nothing.
use mathlib.Core.Path.{◌≡◌, refl, sym, ap, subst}
use mathlib.Core.Bool.{true, false, not, ◌&&◌, true≢false}
use mathlib.Core.List.{List}
use Prim.Native.Nat.{ℕ, ◌<◌, ◌^◌}
use native.Mathlib.Nat.{not-suc-le-zero}
use native.Mathlib.Omega.{arith}
use lib.Dec.{T, ltb}
use lib.IntN.{ℤ, pos, negsuc, nat_abs}
use lib.ListN.{get_or}
use lib.Signed.{lt_z, non_neg, mag}
use mir.Syntax.{w64}
use mir.Val.{Fits, SFits, to_z, of_z}
use mir.ValLaws.{to_z-of_z, half_full}
use borrow.Author.Tests.{ltb-true, le-ltb}
use Rattle.tables.specs.Conditions.{below, nat}

negative : (n : ℕ) (x : ℤ) → lt_z x (pos 0) ≡ true → false ≡ below n x
negative n (pos k) h = absurd (not-suc-le-zero (ltb-true k 0 h))
negative n (negsuc k) h = refl

not_negative_lem : (n : ℕ) (x : ℤ) → SFits w64 x → lt_z x (pos 0) ≡ false → (T (non_neg x) × Fits w64 (nat_abs x)) × (ltb (nat_abs x) n ≡ below n x)
not_negative_lem n (pos k) f h = ((tt, record { fits = half_full w64 f.sfits }), refl)
not_negative_lem n (negsuc k) f h = absurd (true≢false h)

as_index : (x : ℤ) → SFits w64 x → x ≡ pos (nat x) → (T (non_neg x) × Fits w64 (nat_abs x)) × (nat_abs x ≡ nat x)
as_index (pos k) f h = ((tt, record { fits = half_full w64 f.sfits }), refl)
as_index (negsuc k) f h = absurd (subst T (ap non_neg (sym h)) tt)

between : (n : ℕ) (x : ℤ) → (not (lt_z x (pos 0)) && lt_z x (pos n)) ≡ below n x
between n (pos k) = rw (le-ltb k 0 (omega arith))
between n (negsuc k) = refl

-- the same of the number that is read back
module _ (n : ℕ) (x : ℤ) (f : SFits w64 x) where
  pub is_negative : lt_z (to_z w64 (of_z w64 x)) (pos 0) ≡ true → false ≡ below n x
  is_negative h = negative n x (subst (λ (y : ℤ). lt_z y (pos 0) ≡ true) (to_z-of_z w64 x f) h)

  pub is_index : lt_z (to_z w64 (of_z w64 x)) (pos 0) ≡ false
      → (T (non_neg (to_z w64 (of_z w64 x))) × Fits w64 (nat_abs (to_z w64 (of_z w64 x)))) × (ltb (nat_abs (to_z w64 (of_z w64 x))) n ≡ below n x)
  is_index h =
      subst (λ (y : ℤ). lt_z y (pos 0) ≡ false → (T (non_neg y) × Fits w64 (nat_abs y)) × (ltb (nat_abs y) n ≡ below n x))
      (sym (to_z-of_z w64 x f)) (not_negative_lem n x f) h

pub is_between : (n : ℕ) (x m : ℤ) → SFits w64 x → SFits w64 m → m ≡ pos n
    → (not (lt_z (to_z w64 (of_z w64 x)) (pos 0)) && lt_z (to_z w64 (of_z w64 x)) (to_z w64 (of_z w64 m))) ≡ below n x
is_between n x m f g e = rw (to_z-of_z w64 x f, to_z-of_z w64 m g, e) (between n x)

pub read_index : (x : ℤ) → SFits w64 x → x ≡ pos (nat x)
    → (T (non_neg (to_z w64 (of_z w64 x))) × Fits w64 (nat_abs (to_z w64 (of_z w64 x)))) × (nat_abs (to_z w64 (of_z w64 x)) ≡ nat x)
read_index x f h = subst (λ (y : ℤ). (T (non_neg y) × Fits w64 (nat_abs y)) × (nat_abs y ≡ nat x)) (sym (to_z-of_z w64 x f)) (as_index x f h)

-- an element of a slice, handed to a function
pub handed : (P : ℤ → Type 0) (t : List ℤ) (i : ℕ) → mag (get_or t i (pos 0)) < 2 ^ 63 → P (to_z w64 (of_z w64 (get_or t i (pos 0)))) → P (get_or t i (pos 0))
handed P t i g p = subst P (to_z-of_z w64 (get_or t i (pos 0)) (record { sfits = g })) p
