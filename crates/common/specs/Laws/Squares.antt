-- Squares of natural numbers. Assumes nothing.
use Rattle.std.proofs.Common.{sym, le_trans, le_of_lt, le_of_eq, lt_of_not-le, not-le_of_lt, zero-lt-suc, mul-le-mul, arith, pow-add}
use Rattle.std.specs.Prelude.{ℕ, zero, suc, ◌+◌, ◌*◌, ◌^◌, ◌≤◌, ◌<◌}

pub self_le_square : (s : ℕ) → s ≤ s * s
self_le_square zero = omega arith
self_le_square (suc k) = omega arith

pub square_mono : (a b : ℕ) → a ≤ b → a * a ≤ b * b
square_mono a b h = mul-le-mul h h

-- a square below b's square is that of a number below b
pub root_lt : (a b : ℕ) → a * a < b * b → a < b
root_lt a b h = lt_of_not-le (λ (g : b ≤ a). not-le_of_lt h (square_mono b a g))

pub square-bound : (a k : ℕ) → a < 2 ^ k → a * a ≤ 2 ^ (k + k)
square-bound a k h = le_trans (square_mono a (2 ^ k) (le_of_lt h)) (le_of_eq (sym (pow-add 2 k k)))

pub square_pos : (n s : ℕ) → n < s * s → 0 < s
square_pos n zero h = absurd (never h)
  where
    never : n < 0 * 0 → ⊥
    never h = omega arith
square_pos n (suc k) h = zero-lt-suc k

pub square_strict : (a b : ℕ) → a < b → a * a < b * b
square_strict a b h = omega (arith, square_mono (suc a) b h)
