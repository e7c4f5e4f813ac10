-- What a bit pattern's fields say of an `f64` that is finite: its size in units of 2 ^ -1074. Assumes nothing.
use Rattle.std.specs.Prelude.{◌≡◌, refl, Bool, true, false, not, cond, ◌⊎◌, ℕ, zero, suc, ◌+◌, ◌-◌, ◌*◌, ◌/◌, ◌%◌, ◌^◌, ◌≤◌, ◌<◌, T, leb, ltb, eqb, Float}
use Rattle.std.proofs.Common.{sym, ap, ◌∙◌, subst, inl, inr, mul-div_cancel, arith, eqb→eq, ltb→lt, nltb→le}
use Rattle.std.proofs.Math.Dec.{not_T}
use Rattle.std.specs.Float.{nan, inf, fin, binary64}
use Rattle.std.specs.Float.Ieee.{odd, fits, of_fields, of_bits, to_bits, nan_bits, down, size}
use Rattle.std.proofs.Math.Arith.{le→nltb}
use Rattle.std.specs.Float.Ieee.Bits.{of_bits-to_bits, cond_no, nan_bits_above}
use Rattle.std.specs.Float.Ieee.Fits.{down_pos}
use Rattle.std.specs.Float.Ieee.Exact.{HasValue, odd_sign}
use Rattle.std.specs.Float.Ieee.Scale.{finite}

pub lt_or_le : (a b : ℕ) → (a < b) ⊎ (b ≤ a)
lt_or_le a b = go (ltb a b) (ltb→lt a b) (nltb→le a b)
  where
    go : (t : Bool) → (T t → a < b) → (T (not t) → b ≤ a) → (a < b) ⊎ (b ≤ a)
    go true h k = inl (h tt)
    go false h k = inr (k tt)

-- x has the sign minus
abbrev pub negative : Float → Bool
negative nan = false
negative (inf s) = s
negative (fin s m e) = s

-- the size of the field x and the digits t
abbrev pub units_of : ℕ → ℕ → ℕ
units_of zero t = t * 2 ^ 0
units_of (suc j) t = (2 ^ 52 + t) * 2 ^ j

abbrev pub sign_of : ℕ → Bool
sign_of b = leb (2 ^ 63) b

abbrev pub field_of : ℕ → ℕ
field_of b = b % 2 ^ 63 / 2 ^ 52

abbrev pub digits_of : ℕ → ℕ
digits_of b = b % 2 ^ 52

not-ones : (x : ℕ) → x < 2047 → T (not (eqb x 2047))
not-ones x h = not_T (eqb x 2047) (λ t. clash (eqb→eq x 2047 t))
  where
    clash : x ≡ 2047 → ⊥
    clash e = omega arith

field_value : (s : Bool) (x t : ℕ) → x < 2047 → HasValue (of_fields binary64 s x t) s (units_of x t) (2 ^ 1074)
unfolding of_fields
field_value s zero t h = odd_sign 53 s t 0 1074
field_value s (suc j) t h =
    subst (λ (v : Float). HasValue v s ((2 ^ 52 + t) * 2 ^ j) (2 ^ 1074)) (sym (cond_no (eqb (suc j) 2047) (cond (eqb t 0) (inf s) nan) (odd 53 s (2 ^ 52 + t) j 1074) (not-ones (suc j) h)))
    (odd_sign 53 s (2 ^ 52 + t) j 1074)

pub of_bits_is : (b : ℕ) → of_bits binary64 b ≡ of_fields binary64 (sign_of b) (field_of b) (digits_of b)
unfolding of_bits
of_bits_is b = refl

pub bits-value : (b : ℕ) → field_of b < 2047 → HasValue (of_bits binary64 b) (sign_of b) (units_of (field_of b) (digits_of b)) (2 ^ 1074)
bits-value b h = subst (λ (v : Float). HasValue v (sign_of b) (units_of (field_of b) (digits_of b)) (2 ^ 1074)) (sym (of_bits_is b)) (field_value (sign_of b) (field_of b) (digits_of b) h)

pub own_bits : (x : Float) → T (fits binary64 x) → x ≡ of_bits binary64 (to_bits binary64 x)
own_bits x F = sym (of_bits-to_bits binary64 x F)

-- the same of a float, by its own pattern
pub value_of : (x : Float) → T (fits binary64 x) → field_of (to_bits binary64 x) < 2047
    → HasValue x (sign_of (to_bits binary64 x)) (units_of (field_of (to_bits binary64 x)) (digits_of (to_bits binary64 x))) (2 ^ 1074)
value_of x F h =
    let b = to_bits binary64 x in
    subst (λ (v : Float). HasValue v (sign_of b) (units_of (field_of b) (digits_of b)) (2 ^ 1074)) (of_bits-to_bits binary64 x F) (bits-value b h)

-- the highest field is an infinity's, or a NaN's
at_top : (s : Bool) (t : ℕ) → of_fields binary64 s 2047 t ≡ cond (eqb t 0) (inf s) nan
unfolding of_fields
at_top s t = refl

pub top-value : (s : Bool) (x t : ℕ) → 2047 ≤ x → x < 2048 → of_fields binary64 s x t ≡ cond (eqb t 0) (inf s) nan
top-value s x t h k = ap (λ (z : ℕ). of_fields binary64 s z t) (is h k) ∙ at_top s t
  where
    is : 2047 ≤ x → x < 2048 → x ≡ 2047
    is p q = omega arith

pub field_lt : (b : ℕ) → field_of b < 2048
field_lt b = omega arith

pub digits_lt : (b : ℕ) → digits_of b < 2 ^ 52
digits_lt b = omega arith

pub no_nan_bits : (n : ℕ) → n % 2 ^ 63 ≤ 2047 * 2 ^ 52 → T (not (nan_bits binary64 n))
no_nan_bits n h = subst (λ (t : Bool). T (not t)) (sym (nan_bits_above binary64 n)) (le→nltb (2047 * 2 ^ 52) (n % 2 ^ 63) h)

-- a finite value's field is none of these
not_top : (x : Float) (b s : Bool) → T (finite x) → x ≡ cond b (inf s) nan → ⊥
not_top x true s p h = subst (λ (z : Float). T (finite z)) h p
not_top x false s p h = subst (λ (z : Float). T (finite z)) h p

pub field_in : (x : Float) → T (fits binary64 x) → T (finite x) → field_of (to_bits binary64 x) < 2047
field_in x F p =
    let b = to_bits binary64 x in
    elim (lt_or_le (field_of b) 2047) [
      | inl l ↦ l
      | inr g ↦ absurd (not_top x (eqb (digits_of b) 0) (sign_of b) p (own_bits x F ∙ of_bits_is b ∙ top-value (sign_of b) (field_of b) (digits_of b) g (field_lt b)))
    ]

-- ---- two floats of the same sign and size
pub to_bits-at : (x : Float) (s : Bool) (a : ℕ) → HasValue x s a (2 ^ 1074) → to_bits binary64 x ≡ cond s (2 ^ 63) 0 + (size a - 53) * 2 ^ 52 + a / 2 ^ (size a - 53)
unfolding to_bits
to_bits-at nan s a h = absurd h
to_bits-at (inf t) s a h = absurd h
to_bits-at (fin t m e) s a h =
    ap (λ (n : ℕ). cond t (2 ^ 63) 0 + (size n - 53) * 2 ^ 52 + n / 2 ^ (size n - 53)) (ap (λ (z : ℕ). z / down e) h.1 ∙ mul-div_cancel a (down_pos e))
    ∙ ap (λ (b : Bool). cond b (2 ^ 63) 0 + (size a - 53) * 2 ^ 52 + a / 2 ^ (size a - 53)) h.0

pub same-value : (x y : Float) (s : Bool) (a : ℕ) → T (fits binary64 x) → T (fits binary64 y) → HasValue x s a (2 ^ 1074) → HasValue y s a (2 ^ 1074) → x ≡ y
same-value x y s a F G h k = sym (of_bits-to_bits binary64 x F) ∙ ap (of_bits binary64) (to_bits-at x s a h ∙ sym (to_bits-at y s a k)) ∙ of_bits-to_bits binary64 y G
