-- `nint` by the field that the code reads: a size below 2 ^ 52, one below 2 ^ 63, and one beyond. Assumes nothing.
use mathlib.Core.Path.{◌≡◌, sym, ap, ◌∙◌, subst}
use mathlib.Core.Logic.{inl, inr}
use mathlib.Core.Bool.{Bool, true, false, not, cond}
use Prim.Native.Nat.{ℕ, zero, suc, ◌+◌, ◌-◌, ◌*◌, ◌^◌, ◌≤◌, ◌<◌, min}
use native.Mathlib.Nat.{lt_of_le_of_lt, lt_of_lt_of_le, mul-le-mul}
use native.Mathlib.Omega.{arith}
use lib.Dec.{T, eqb, lit≤}
use lib.Pow.{pow_mono, shl_lt}
use lib.IntN.{ℤ, pos, neg_ℤ, ◌-ℤ◌, +ℤ_idl}
use lib.Signed.{mag}
use lib.Ieee.{Float, nan, inf, binary64, fits, is_nan, ne, to_bits, to_signed}
use lib.Ieee.Compare.{differs_from_itself}
use lib.Ieee.Exact.{HasValue}
use lib.Ieee.Back.{round_whole}
use mir.Syntax.{w64}
use mir.Val.{to_z, of_z}
use mir.ValLaws.{to_z_pos, to_z-of_z}
use Rattle.common.specs.Whole.{half_up, nearest_whole, nint}
use Rattle.common.specs.Laws.Fields.{units_of, sign_of, field_of, digits_of, digits_lt, value_of, own_bits, of_bits_is, top-value, field_lt, lt_or_le}
use Rattle.common.proofs.Wholes.{at_bits, at_field, whole_already, signed-whole}

-- n with the sign s
abbrev pub signed : Bool → ℕ → ℤ
signed s n = cond s (neg_ℤ (pos n)) (pos n)

-- at any whole number that x rounds to
nint-at : (x : Float) (s : Bool) (n : ℕ) → HasValue (nearest_whole x) s n 1 → nint x ≡ cond s (neg_ℤ (pos (min n (2 ^ 63)))) (pos (min n (2 ^ 63 - 1)))
unfolding nint
nint-at x s n h = signed-whole (nearest_whole x) s n h

inside : (n : ℕ) → n < 2 ^ 63 → (min n (2 ^ 63) ≡ n) × (min n (2 ^ 63 - 1) ≡ n)
inside n h = omega arith

outside : (n : ℕ) → 2 ^ 63 ≤ n → (min n (2 ^ 63) ≡ 2 ^ 63) × (min n (2 ^ 63 - 1) ≡ 2 ^ 63 - 1)
outside n h = omega arith

nint-inside : (x : Float) (s : Bool) (n : ℕ) → n < 2 ^ 63 → HasValue (nearest_whole x) s n 1 → nint x ≡ signed s n
nint-inside x s n l h = let i = inside n l in nint-at x s n h ∙ rw (i.0, i.1)

-- infinities
nint-top : (x : Float) (s b : Bool) → T (not (is_nan x)) → x ≡ cond b (inf s) nan → nint x ≡ cond s (neg_ℤ (pos (2 ^ 63))) (pos (2 ^ 63 - 1))
unfolding nint nearest_whole to_signed is_nan
nint-top x s true n h = ap nint h
nint-top x s false n h = absurd (subst (λ (z : Float). T (not (is_nan z))) h n)

pub nint_nan : (x : Float) → ne x x ≡ true → pos 0 ≡ nint x
unfolding nint nearest_whole to_signed
nint_nan x h = sym (ap nint (differs_from_itself x (subst T (sym h) tt)))

with_lead : (t : ℕ) → t < 2 ^ 52 → 2 ^ 52 + t < 2 ^ 53
with_lead t h = omega arith

module _ (x : Float) (F : T (fits binary64 x)) where
  abbrev b : ℕ
  b = to_bits binary64 x

  -- the size from 2 ^ 52 on
  abbrev pub large_size : ℕ
  large_size = (2 ^ 52 + digits_of b) * 2 ^ (field_of b - 1075)

  pub nint-small : (n : ℕ) → field_of b < 1075 → n ≡ half_up (units_of (field_of b) (digits_of b)) (2 ^ 1074) → n ≤ 2 ^ 53 → nint x ≡ signed (sign_of b) n
  nint-small n h e l =
      nint-inside x (sign_of b) n (lt_of_le_of_lt l (lit≤ tt))
      (subst (λ (v : Float). HasValue v (sign_of b) n 1) (at_bits x F n h e) (round_whole binary64 (sign_of b) n l))

  large-value : 1075 ≤ field_of b → field_of b < 2047 → HasValue (nearest_whole x) (sign_of b) large_size 1
  large-value lo hi = subst (λ (v : Float). HasValue v (sign_of b) large_size 1) (whole_already x F lo) (at_field x (sign_of b) (field_of b) (digits_of b) lo (value_of x F hi))

  pub large_lt : field_of b < 1086 → large_size < 2 ^ 63
  large_lt h = lt_of_lt_of_le (shl_lt 53 (field_of b - 1075) (with_lead (digits_of b) (digits_lt b))) (pow_mono {i = 53 + (field_of b - 1075)} {j = 63} (omega arith))

  pub nint-large : 1075 ≤ field_of b → field_of b < 1086 → nint x ≡ signed (sign_of b) large_size
  nint-large lo hi = nint-inside x (sign_of b) large_size (large_lt hi) (large-value lo (omega arith))

  large_ge : 1086 ≤ field_of b → 2 ^ 63 ≤ large_size
  large_ge h =
      let lead : 2 ^ 52 ≤ 2 ^ 52 + digits_of b = omega arith in
      let far : 2 ^ 11 ≤ 2 ^ (field_of b - 1075) = pow_mono {i = 11} {j = field_of b - 1075} (omega arith) in
      mul-le-mul lead far

  pub nint_end : T (not (is_nan x)) → 1086 ≤ field_of b → nint x ≡ cond (sign_of b) (neg_ℤ (pos (2 ^ 63))) (pos (2 ^ 63 - 1))
  nint_end n h = elim (lt_or_le (field_of b) 2047) [
    | inl l ↦
        let i = outside large_size (large_ge h) in
        nint-at x (sign_of b) large_size (large-value (omega arith) l) ∙ rw (i.0, i.1)
    | inr g ↦ nint-top x (sign_of b) (eqb (digits_of b) 0) n (own_bits x F ∙ of_bits_is b ∙ top-value (sign_of b) (field_of b) (digits_of b) g (field_lt b))
  ]

-- ---- the code's integers
negated : (n : ℕ) → n < 2 ^ 63 → mag (neg_ℤ (pos n)) < 2 ^ 63
negated zero h = h
negated (suc n) h = omega arith

module _ (n : ℕ) (h : n < 2 ^ 63) where
  pub plus_is : to_z w64 n ≡ pos n
  plus_is = to_z_pos w64 n h

  minus_is : pos 0 -ℤ to_z w64 n ≡ neg_ℤ (pos n)
  minus_is = ap (λ (z : ℤ). pos 0 -ℤ z) plus_is ∙ +ℤ_idl (neg_ℤ (pos n))

  pub minus-small : mag (pos 0 -ℤ to_z w64 n) < 2 ^ 63
  minus-small = subst (λ (z : ℤ). mag z < 2 ^ 63) (sym minus_is) (negated n h)

  pub minus-out : to_z w64 (of_z w64 (pos 0 -ℤ to_z w64 n)) ≡ neg_ℤ (pos n)
  minus-out = to_z-of_z w64 (pos 0 -ℤ to_z w64 n) (record { sfits = minus-small }) ∙ minus_is
