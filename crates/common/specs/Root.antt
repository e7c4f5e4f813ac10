-- IEEE 754's square root: the value of the format that is nearest to the root, of two equally near the even one (document 01, "Square root").
-- `sqrt` at the end is the definition. NearestRoot.antt says of natural numbers what it is to be the nearest, and proves that `sqrt` is, and that no other value is.
-- Assumes nothing.
use Rattle.std.specs.Prelude.{ℕ, zero, suc, ◌+◌, ◌*◌, ◌/◌, ◌^◌, true, false, cond, leb, eqb, Float}
use Rattle.std.specs.Float.{nan, inf, fin, Format}
use Rattle.std.specs.Float.Ieee.{up, down, low, size, round}

-- The whole part of the root of an n below 4 ^ d, a binary digit at a time: the largest r with r * r ≤ n.
unfoldable pub root_digits : ℕ → ℕ → ℕ
root_digits zero n = 0
root_digits (suc d) n = let r = 2 * root_digits d (n / 4) in cond (leb ((r + 1) * (r + 1)) n) (r + 1) r

-- The whole part of the root of n, which has `size n` binary digits. RootLaws.antt proves that it is that.
unfoldable pub root : ℕ → ℕ
unfolding root_digits
root n = root_digits (size n) n

-- The root of n / 4 ^ k, rounded to the format. Its whole part in units of 2 ^ -k is r. One binary digit more, 1 where the root is no whole number of units,
-- is all that `round` has to know of the rest: `round` rounds the fraction (2 * r + 1) / 2 ^ (k + 1) as it would the root.
unfoldable pub rounded_root : Format → ℕ → ℕ → Float
unfolding root
rounded_root f n k = let r = root n in round f false (2 * r + cond (eqb (r * r) n) 0 1) (2 ^ suc k)

-- A NaN, and every negative number but -0.0, gives NaN. Both zeros and +infinity give themselves. A positive x is suc m * up e / down e, and
-- its root is worked out in units of 2 ^ -k, half of the format's smallest value: each value of the format, and each number halfway between two, is a whole number of them.
unfoldable pub sqrt : Format → Float → Float
unfolding rounded_root
sqrt f nan = nan
sqrt f (inf s) = cond s nan (inf s)
sqrt f (fin s zero e) = fin s zero e
sqrt f (fin true (suc m) e) = nan
sqrt f (fin false (suc m) e) = let k = suc (low f) in rounded_root f (suc m * up e * 4 ^ k / down e) k
