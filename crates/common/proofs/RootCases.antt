-- The definition of the root at each kind of float, by the tests that `sqrt` makes: above zero, an infinity, a zero, and the rest. Assumes nothing.
use mathlib.Core.Path.{◌≡◌, refl, sym, ap, ◌∙◌, subst}
use mathlib.Core.Bool.{Bool, true, false, not, ◌&&◌, ◌||◌, beq, cond, true≢false, false≢true}
use Prim.Native.Nat.{ℕ, zero, suc, ◌*◌, ◌≤◌, ◌<◌}
use native.Mathlib.Nat.{zero-lt-suc, mul-pos}
use native.Mathlib.Omega.{arith}
use borrow.Author.Tests.{ltb-true, ltb-false, eqb-true, eq-eqb}
use lib.Dec.{T, eqb, lt→ltb}
use lib.IntN.{ℤ, pos}
use lib.Ieee.{Float, nan, inf, fin, binary64, up, down, fits, is_nan, of_bits, to_bits, lt, eq, div}
use lib.Ieee.Fits.{up_pos}
use lib.Ieee.Positive.{above}
use Rattle.common.specs.Root.{sqrt}
use Rattle.common.specs.Laws.Fields.{sign_of, field_of, digits_of, own_bits, of_bits_is, top-value, field_lt}

-- 0.0 as the code has it
zero_is : of_bits binary64 0 ≡ fin false 0 (pos 0)
unfolding of_bits
zero_is = refl

-- ---- above zero
no_zero : (e : ℤ) → 0 * 1 * down e < 0 * up e * 1 → ⊥
no_zero e h = omega arith

above_at : (x : Float) → lt (fin false 0 (pos 0)) x ≡ true → T (above x)
unfolding lt
above_at nan h = absurd (false≢true h)
above_at (inf true) h = absurd (false≢true h)
above_at (inf false) h = tt
above_at (fin true m e) h = absurd (false≢true h)
above_at (fin false zero e) h = absurd (no_zero e (ltb-true (0 * 1 * down e) (0 * up e * 1) h))
above_at (fin false (suc m) e) h = lt→ltb 0 (suc m) (zero-lt-suc m)

pub above_zero : (x : Float) → lt (of_bits binary64 0) x ≡ true → T (above x)
above_zero x h = above_at x (ap (λ (z : Float). lt z x) (sym zero_is) ∙ h)

pub above_number : (x : Float) → T (above x) → T (not (is_nan x))
unfolding is_nan
above_number nan h = h
above_number (inf s) h = tt
above_number (fin s m e) h = tt

-- ---- an infinity
is_inf : (x : Float) (s b : Bool) → x ≡ cond b (inf s) nan → T (above x) → x ≡ sqrt binary64 x
unfolding sqrt
is_inf x true true h A = absurd (subst (λ (z : Float). T (above z)) h A)
is_inf x false true h A = h ∙ sym (ap (sqrt binary64) h)
is_inf x s false h A = absurd (subst (λ (z : Float). T (above z)) h A)

pub at_infinity : (x : Float) → T (fits binary64 x) → T (above x) → 2047 ≤ field_of (to_bits binary64 x) → x ≡ sqrt binary64 x
at_infinity x F A h =
    let b = to_bits binary64 x in
    is_inf x (sign_of b) (eqb (digits_of b) 0) (own_bits x F ∙ of_bits_is b ∙ top-value (sign_of b) (field_of b) (digits_of b) h (field_lt b)) A

-- ---- a zero
some_left : (m : ℕ) (e : ℤ) → suc m * up e * 1 ≡ 0 * 1 * down e → ⊥
some_left m e h = omega (arith, mul-pos (zero-lt-suc m) (up_pos e))

and_true : (a b : Bool) → (a && b) ≡ true → a ≡ true
and_true true b h = refl
and_true false b h = absurd (false≢true h)

zero-at : (x : Float) → eq x (fin false 0 (pos 0)) ≡ true → x ≡ sqrt binary64 x
unfolding sqrt eq
zero-at nan h = absurd (false≢true h)
zero-at (inf s) h = absurd (false≢true h)
zero-at (fin s zero e) h = refl
zero-at (fin s (suc m) e) h = absurd (some_left m e (eqb-true (suc m * up e * 1) (0 * 1 * down e) (and_true (eqb (suc m * up e * 1) (0 * 1 * down e)) _ h)))

pub at_zero : (x : Float) → eq x (of_bits binary64 0) ≡ true → x ≡ sqrt binary64 x
at_zero x h = zero-at x (ap (eq x) (sym zero_is) ∙ h)

-- ---- a negative value, or a NaN
none-less : (m : ℕ) (e : ℤ) → suc m * up e * 1 ≤ 0 * 1 * down e → ⊥
none-less m e h = omega (arith, mul-pos (zero-lt-suc m) (up_pos e))

both_zero : (p q r : Bool) → p ≡ true → r ≡ true → (p && (q || r)) ≡ false → ⊥
both_zero true true r h k n = true≢false n
both_zero true false r h k n = true≢false (sym k ∙ n)
both_zero false q r h k n = false≢true h

zeros : (s : Bool) (a b : ℕ) → a ≡ 0 → b ≡ 0 → (eqb a b && (beq s false || eqb a 0)) ≡ false → ⊥
zeros s a b h k n = both_zero (eqb a b) (beq s false) (eqb a 0) (eq-eqb a b (h ∙ sym k)) (eq-eqb a 0 h) n

other_at : (x : Float) → lt (fin false 0 (pos 0)) x ≡ false → eq x (fin false 0 (pos 0)) ≡ false → nan ≡ sqrt binary64 x
unfolding sqrt lt eq
other_at nan h k = refl
other_at (inf true) h k = refl
other_at (inf false) h k = absurd (true≢false h)
other_at (fin s zero e) h k = absurd (zeros s (0 * up e * 1) (0 * 1 * down e) (omega arith) (omega arith) k)
other_at (fin true (suc m) e) h k = refl
other_at (fin false (suc m) e) h k = absurd (none-less m e (ltb-false (0 * 1 * down e) (suc m * up e * 1) h))

is_nan_lem : div binary64 (fin false 0 (pos 0)) (fin false 0 (pos 0)) ≡ nan
unfolding div
is_nan_lem = refl

pub at_other : (x : Float) → lt (of_bits binary64 0) x ≡ false → eq x (of_bits binary64 0) ≡ false → div binary64 (of_bits binary64 0) (of_bits binary64 0) ≡ sqrt binary64 x
at_other x h k = ap (λ (z : Float). div binary64 z z) zero_is ∙ is_nan_lem ∙ other_at x (ap (λ (z : Float). lt z x) (sym zero_is) ∙ h) (ap (eq x) (sym zero_is) ∙ k)
