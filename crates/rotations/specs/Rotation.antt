-- A block with n legs rotated by one 3 by 3 matrix on each leg. Definitions only.
-- A place of a block is a row of directions, the first slowest, so 9 places stand for two legs, 27 for three and 81 for four.
use Rattle.std.specs.Prelude.{List, ℕ, zero, suc, ◌+◌, ◌*◌, ◌/◌, ◌%◌, ◌^◌, get_or, Float}
use Rattle.std.specs.Float.{nan, binary64}
use Rattle.std.specs.Float.Ieee.{add, mul, of_bits}
use Rattle.lists.specs.Tab.{tab, times}
use Rattle.lists.specs.Floats.{plus_zero}

-- 1.0
abbrev pub one : Float
one = of_bits binary64 0x3ff0_0000_0000_0000

-- By what the old number at place q is multiplied in the new number at place p: for each leg the matrix's entry in the row of the new
-- direction and the column of the old one, multiplied from the first leg to the last. m has the nine entries, row after row.
unfoldable pub coefficient : List Float → ℕ → ℕ → ℕ → Float
coefficient m zero p q = one
coefficient m (suc zero) p q = get_or m (p * 3 + q) nan
coefficient m (suc (suc n)) p q = mul binary64 (coefficient m (suc n) (p / 3) (q / 3)) (get_or m (p % 3 * 3 + q % 3) nan)

-- the first w numbers of t, each times its coefficient, summed from 0.0 in rising order
unfoldable pub weighted : ℕ → (ℕ → Float) → List Float → Float
weighted w c t = times w (λ q s. add binary64 s (mul binary64 (c q) (get_or t q nan))) plus_zero

-- the block t of n legs, rotated by m on each leg
unfoldable pub rotated : List Float → ℕ → List Float → List Float
rotated m n t = tab (3 ^ n) (λ p. weighted (3 ^ n) (coefficient m n p) t)

-- ---- as the code arranges it: the coefficients once, and the sums of several places side by side

-- the coefficients of a block of n legs and w places; those of one old number stand together
unfoldable pub coefficients : List Float → ℕ → ℕ → List Float
coefficients m n w = tab (w * w) (λ z. coefficient m n (z % w) (z / w))

-- one more leg: from the coefficients c of w places those of 3 * w places
unfoldable pub widened_at : ℕ → List Float → List Float → ℕ → Float
widened_at w c m z =
    let q = z / (3 * w) in
    let p = z % (3 * w) in
    mul binary64 (get_or c (q / 3 * w + p / 3) nan) (get_or m (p % 3 * 3 + q % 3) nan)

unfoldable pub widened : ℕ → List Float → List Float → List Float
widened w c m = tab (3 * w * (3 * w)) (widened_at w c m)

-- one old number's share in the sums s, with the coefficients from place at of c on
unfoldable pub shared : ℕ → List Float → List Float → ℕ → Float → List Float
shared n s c at x = tab n (λ p. add binary64 (get_or s p nan) (mul binary64 (get_or c (at + p) nan) x))

-- the sums of the n places from `first` on, over the first k old numbers; w coefficients stand together
unfoldable pub sums : ℕ → ℕ → ℕ → ℕ → List Float → List Float → List Float
sums n k w first c t = tab n (λ p. weighted k (λ q. get_or c (q * w + (first + p)) nan) t)
