-- `root n` is the whole part of the root of n: its square is at most n, and the square of the next number is above n. Assumes nothing.
use Rattle.std.proofs.Common.{sym, subst, lt_of_lt_of_le, le_of_eq, le_trans, mul-le-mul, pow-suc, div-lt_iff_lt-mul, zero-lt-suc, le_refl, arith, leb→le, lit≤}
use Rattle.std.specs.Prelude.{Bool, true, false, not, cond, ℕ, zero, suc, ◌+◌, ◌*◌, ◌/◌, ◌^◌, ◌≤◌, ◌<◌, T, leb}
use Rattle.std.proofs.Math.Dec.{nleb→lt}
use Rattle.std.specs.Float.Ieee.{size}
use Rattle.std.specs.Float.Ieee.Digits.{size-lt}
use Rattle.common.specs.Root.{root_digits, root}

-- r is the whole part of n's root
abbrev pub WholeRoot : ℕ → ℕ → Type 0
WholeRoot n r = (r * r ≤ n) × (n < (r + 1) * (r + 1))
