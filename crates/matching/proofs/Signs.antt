-- The program holds an i64 by its bits; what it reads back is the number itself, so a slot is filled exactly if it is not below 0. Assumes nothing.
use mathlib.Core.Path.{◌≡◌, refl, sym, subst}
use lib.IntN.{ℤ, pos, negsuc}
use lib.Signed.{le_z}
use native.Mathlib.Omega.{arith}
use borrow.Author.Tests.{le-leb}
use mir.Syntax.{w64}
use mir.Val.{SFits, to_z, of_z}
use mir.ValLaws.{to_z-of_z}
use Rattle.matching.specs.Matching.{is_filled}

not-below : (z : ℤ) → le_z (pos 0) z ≡ is_filled z
not-below (pos k) = le-leb 0 k (omega arith)
not-below (negsuc k) = refl

pub sign_read : (z : ℤ) → SFits w64 z → le_z (pos 0) (to_z w64 (of_z w64 z)) ≡ is_filled z
sign_read z f = subst (λ (y : ℤ). le_z (pos 0) y ≡ is_filled z) (sym (to_z-of_z w64 z f)) (not-below z)

-- what is known of the number that is read back is known of the number
pub read_back : (P : ℤ → Type 0) (z : ℤ) → SFits w64 z → P (to_z w64 (of_z w64 z)) → P z
read_back P z f p = subst P (to_z-of_z w64 z f) p
