-- The definition of the root at a positive value, by its size in units of 2 ^ -1074: a normal value, and a subnormal one, whose digits the code moves up. Assumes nothing.
use Rattle.std.specs.Prelude.{◌≡◌, refl, Bool, true, false, ℕ, zero, suc, ◌+◌, ◌-◌, ◌*◌, ◌/◌, ◌%◌, ◌^◌, ◌≤◌, ◌<◌, T, Float}
use Rattle.std.proofs.Common.{sym, ap, ◌∙◌, subst, le_trans, le_of_eq, lt_of_lt_of_le, lt_of_le_of_lt, lt_of_not-le, lt_irrefl, mul-one, mul_assoc, mul_right_comm, mul-le-mul_right, mul-lt-mul_of_pos_right, mul-div_cancel, mod-eq_of_lt, arith, lit≤, pow-add, pow_pos, pow_mono}
use Rattle.std.specs.Int.Count.{count_leading_zeros}
use Rattle.std.proofs.lemmas.Nat.{leading_top}
use Rattle.std.specs.Float.{nan, inf, fin, binary64}
use Rattle.std.specs.Float.Ieee.{up, down, fits, to_bits}
use Rattle.std.specs.Float.Ieee.Fits.{down_pos}
use Rattle.std.specs.Float.Ieee.Exact.{HasValue}
use Rattle.std.specs.Float.Ieee.Positive.{above, positive, value_pos}
use Rattle.common.specs.Root.{rounded_root, sqrt}
use Rattle.common.specs.Laws.Fields.{units_of, sign_of, field_of, digits_of, value_of, digits_lt}

-- ---- the root of a value that is U units
in_units : (a d u l k : ℕ) → 0 < d → a * l ≡ u * d → a * (l * k) / d ≡ u * k
in_units a d u l k D h =
    ap (λ (z : ℕ). z / d) (sym (mul_assoc a l k) ∙ ap (λ (z : ℕ). z * k) h ∙ mul_right_comm u d k) ∙ mul-div_cancel (u * k) D

pub sqrt-at : (x : Float) (s : Bool) (u : ℕ) → T (above x) → HasValue x s u (2 ^ 1074) → rounded_root binary64 (u * 2 ^ 1076) 1075 ≡ sqrt binary64 x
unfolding sqrt
sqrt-at nan s u A h = absurd h
sqrt-at (inf t) s u A h = absurd h
sqrt-at (fin true m e) s u A h = absurd A
sqrt-at (fin false zero e) s u A h = absurd A
sqrt-at (fin false (suc m) e) s u A h = ap (λ (z : ℕ). rounded_root binary64 z 1075) (sym (in_units (suc m * up e) (down e) u (2 ^ 1074) (2 ^ 1076) (down_pos e) h.1))

-- ---- a normal value
pub normal_units : (f t : ℕ) → (f ≡ 0 → ⊥) → (2 ^ 52 + t) * 2 ^ (f + 1021 + 54) ≡ units_of f t * 2 ^ 1076
normal_units zero t n = absurd (n refl)
normal_units (suc j) t n = ap (λ (z : ℕ). (2 ^ 52 + t) * 2 ^ z) (sum j) ∙ ap (λ (z : ℕ). (2 ^ 52 + t) * z) (pow-add 2 j 1076) ∙ sym (mul_assoc (2 ^ 52 + t) (2 ^ j) (2 ^ 1076))
  where
    sum : (j : ℕ) → suc j + 1021 + 54 ≡ j + 1076
    sum j = omega arith

pub at_normal : (x : Float) → T (fits binary64 x) → T (above x) → field_of (to_bits binary64 x) < 2047 → (field_of (to_bits binary64 x) ≡ 0 → ⊥)
    → rounded_root binary64 ((2 ^ 52 + digits_of (to_bits binary64 x)) * 2 ^ (field_of (to_bits binary64 x) + 1021 + 54)) 1075 ≡ sqrt binary64 x
at_normal x F A h n =
    let b = to_bits binary64 x in
    ap (λ (z : ℕ). rounded_root binary64 z 1075) (normal_units (field_of b) (digits_of b) n) ∙ sqrt-at x (sign_of b) (units_of (field_of b) (digits_of b)) A (value_of x F h)

-- ---- a subnormal value: the digits t, moved up by z
pub positive_at : (x : Float) (s : Bool) (a c : ℕ) → T (above x) → HasValue x s a c → T (positive x) × HasValue x false a c
positive_at nan s a c A h = absurd h
positive_at (inf t) s a c A h = absurd h
positive_at (fin true m e) s a c A h = absurd A
positive_at (fin false m e) s a c A h = (A, (refl, h.1))

pub pow_lt_back : (i p : ℕ) → 2 ^ i < 2 ^ p → i < p
pow_lt_back i p h = lt_of_not-le (λ (g : p ≤ i). lt_irrefl (2 ^ i) (lt_of_lt_of_le h (pow_mono g)))

-- z is 52 less the place of t's leading digit
abbrev pub Moved : ℕ → ℕ → Type 0
Moved t z = (z ≤ 52) × (2 ^ 52 ≤ t * 2 ^ z) × (t * 2 ^ z < 2 ^ 53)

pub moved : (t : ℕ) → 0 < t → t < 2 ^ 52 → (11 ≤ count_leading_zeros 64 t) × (count_leading_zeros 64 t ≤ 64) × Moved t (count_leading_zeros 64 t - 11)
moved t P D = go l.0 (count_leading_zeros 64 t) (pow_lt_back l.0 52 (lt_of_le_of_lt l.2 D)) l.1 l.2 l.3
  where
    l : (j : ℕ) × (count_leading_zeros 64 t + suc j ≡ 64) × (2 ^ j ≤ t) × (t < 2 ^ suc j)
    l = leading_top 64 t P (lt_of_lt_of_le D (pow_mono {i = 52} {j = 64} (lit≤ tt)))

    go : (j c : ℕ) → j < 52 → c + suc j ≡ 64 → 2 ^ j ≤ t → t < 2 ^ suc j → (11 ≤ c) × (c ≤ 64) × Moved t (c - 11)
    go j c J e lo hi =
        let a : j + (c - 11) ≡ 52 = omega arith in
        let b : suc j + (c - 11) ≡ 53 = omega arith in (
          omega arith,
          omega arith,
          (
            omega arith,
            le_trans (le_of_eq (ap (λ (z : ℕ). 2 ^ z) (sym a) ∙ pow-add 2 j (c - 11))) (mul-le-mul_right (2 ^ (c - 11)) lo),
            lt_of_lt_of_le (mul-lt-mul_of_pos_right hi (pow_pos (c - 11))) (le_of_eq (sym (pow-add 2 (suc j) (c - 11)) ∙ ap (λ (z : ℕ). 2 ^ z) b)),
          ),
        )

module _ (x : Float) (F : T (fits binary64 x)) (A : T (above x)) (h : field_of (to_bits binary64 x) ≡ 0) where
  abbrev t : ℕ
  t = digits_of (to_bits binary64 x)

  pub value : HasValue x (sign_of (to_bits binary64 x)) (t * 2 ^ 0) (2 ^ 1074)
  value = subst (λ (f : ℕ). HasValue x (sign_of (to_bits binary64 x)) (units_of f t) (2 ^ 1074)) h (value_of x F (omega arith))

  some : 0 < t
  some =
      let p = positive_at x (sign_of (to_bits binary64 x)) (t * 2 ^ 0) (2 ^ 1074) A value in
      subst (λ (z : ℕ). 0 < z) (mul-one t) (value_pos x (t * 2 ^ 0) (2 ^ 1074) p.0 (pow_pos 1074) p.1)

  pub up_by : (11 ≤ count_leading_zeros 64 t) × (count_leading_zeros 64 t ≤ 64) × Moved t (count_leading_zeros 64 t - 11)
  up_by = moved t some (digits_lt (to_bits binary64 x))

  abbrev z : ℕ
  z = count_leading_zeros 64 t - 11

  pub whole-shift : t * 2 ^ z % 2 ^ 64 ≡ t * 2 ^ z
  whole-shift = mod-eq_of_lt (lt_of_lt_of_le up_by.2.2 (pow_mono {i = 53} {j = 64} (lit≤ tt)))

  pub subnormal_units : t * 2 ^ z % 2 ^ 64 * 2 ^ (1022 - z + 54) ≡ t * 2 ^ 0 * 2 ^ 1076
  subnormal_units =
      let e : z + (1022 - z + 54) ≡ 1076 = omega (arith, up_by.2.0) in
      ap (λ (k : ℕ). k * 2 ^ (1022 - z + 54)) whole-shift ∙ mul_assoc t (2 ^ z) (2 ^ (1022 - z + 54)) ∙ ap (λ (k : ℕ). t * k) (sym (pow-add 2 z (1022 - z + 54)) ∙ ap (λ (k : ℕ). 2 ^ k) e) ∙ ap (λ (k : ℕ). k * 2 ^ 1076) (sym (mul-one t))

  pub at_subnormal : rounded_root binary64 (t * 2 ^ z % 2 ^ 64 * 2 ^ (1022 - z + 54)) 1075 ≡ sqrt binary64 x
  at_subnormal = ap (λ (k : ℕ). rounded_root binary64 k 1075) subnormal_units ∙ sqrt-at x (sign_of (to_bits binary64 x)) (t * 2 ^ 0) A value
