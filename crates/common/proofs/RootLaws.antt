-- `root n` is the whole part of the root of n: its square is at most n, and the square of the next number is above n. Assumes nothing.
use Rattle.std.proofs.Common.{sym, subst, lt_of_lt_of_le, le_of_eq, le_trans, mul-le-mul, pow-suc, div-lt_iff_lt-mul, zero-lt-suc, le_refl, arith, leb→le, lit≤}
use Rattle.std.specs.Prelude.{Bool, true, false, not, cond, ℕ, zero, suc, ◌+◌, ◌*◌, ◌/◌, ◌^◌, ◌≤◌, ◌<◌, T, leb}
use Rattle.std.proofs.Math.Dec.{nleb→lt}
use Rattle.std.specs.Float.Ieee.{size}
use Rattle.std.specs.Float.Ieee.Digits.{size-lt}
use Rattle.common.specs.Root.{root_digits, root}
use Rattle.common.specs.RootLaws.{WholeRoot}

step : (n r : ℕ) (b : Bool) → WholeRoot (n / 4) r → (T b → (2 * r + 1) * (2 * r + 1) ≤ n) → (T (not b) → n < (2 * r + 1) * (2 * r + 1)) → WholeRoot n (cond b (2 * r + 1) (2 * r))
step n r true w h k = go (h tt) w.0 w.1
  where
    go : (2 * r + 1) * (2 * r + 1) ≤ n → r * r ≤ n / 4 → n / 4 < (r + 1) * (r + 1) → WholeRoot n (2 * r + 1)
    go a b c = omega arith
step n r false w h k = go (k tt) w.0 w.1
  where
    go : n < (2 * r + 1) * (2 * r + 1) → r * r ≤ n / 4 → n / 4 < (r + 1) * (r + 1) → WholeRoot n (2 * r)
    go a b c = omega arith

digits-root : (d n : ℕ) → n < 4 ^ d → WholeRoot n (root_digits d n)
unfolding root_digits
digits-root zero n h = go h
  where
    go : n < 1 → WholeRoot n 0
    go h = omega arith
digits-root (suc d) n h =
    let r = root_digits d (n / 4) in
    step n r (leb ((2 * r + 1) * (2 * r + 1)) n) (digits-root d (n / 4) ((div-lt_iff_lt-mul (zero-lt-suc 3)).1 (subst (λ (z : ℕ). n < z) (pow-suc 4 d) h)))
    (leb→le ((2 * r + 1) * (2 * r + 1)) n) (nleb→lt ((2 * r + 1) * (2 * r + 1)) n)

two_le_four : (k : ℕ) → 2 ^ k ≤ 4 ^ k
two_le_four zero = le_refl 1
two_le_four (suc k) =
    let a : 2 ≤ 4 = lit≤ tt in
    le_trans (le_of_eq (pow-suc 2 k)) (le_trans (mul-le-mul (two_le_four k) a) (le_of_eq (sym (pow-suc 4 k))))

pub root_is : (n : ℕ) → WholeRoot n (root n)
unfolding root
root_is n = digits-root (size n) n (lt_of_lt_of_le (size-lt n) (two_le_four (size n)))
