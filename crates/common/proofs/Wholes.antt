-- The nearest whole number of a float, by its size in units of 2 ^ -1074, and by the pattern that the code makes of it. Assumes nothing.
use Rattle.std.specs.Prelude.{◌≡◌, refl, ◌⊎◌, Bool, true, false, not, cond, ℕ, zero, suc, ◌+◌, ◌-◌, ◌*◌, ◌/◌, ◌^◌, ◌≤◌, ◌<◌, min, T, eqb, ℤ, pos, neg_ℤ, Float}
use Rattle.std.proofs.Common.{sym, ◌∙◌, subst, inl, inr, true≢false, zero-le, mul-div_cancel, le_antisymm, lt_irrefl, div-le_self, le_of_lt, le_of_eq, lt_of_lt_of_le, zero-lt-suc, mul-one, mul_comm, mul_assoc, mul_right_comm, mul-pos, mul-le-mul_right, pow-suc, arith, lit≤, le-leb, pow-add, pow_pos, pow_mono, shl_lt}
use Rattle.std.proofs.Math.Path.{ap}
use Rattle.std.proofs.Math.Nat.{div-add-mod', eq_of_mul-eq-mul_right, mul-div-mul_right, add-div_right, div-div-eq-div-mul, div-eq_of_lt, mod-lt}
use Rattle.std.proofs.Math.Arith.{digits_div}
use Rattle.std.proofs.lemmas.Bool.{lt-leb}
use Rattle.std.specs.Float.{nan, inf, fin, binary64}
use Rattle.std.specs.Float.Ieee.{up, down, size, round, of_int, fits, of_bits, to_bits, nan_bits, is_nan, ne, to_signed}
use Rattle.std.specs.Float.Ieee.Fits.{round-fits, down_pos}
use Rattle.std.specs.Float.Ieee.Compare.{differs_from_itself, nan_differs}
use Rattle.std.specs.Float.Ieee.Exact.{HasValue, round_exact}
use Rattle.std.specs.Float.Ieee.Nearest.{div_same}
use Rattle.std.specs.Float.Ieee.Bits.{of_bits-to_bits, to_bits-lt, nan_bits_is}
use Rattle.std.specs.Float.Ieee.Back.{round_whole, whole_unique}
use Rattle.common.specs.Whole.{half_up, nearest_whole}
use Rattle.common.specs.Laws.Fields.{to_bits-at, units_of, sign_of, field_of, digits_of, value_of, field_in, own_bits, of_bits_is, top-value, field_lt, digits_lt, lt_or_le}

-- ---- `half_up` sees only the value of its fraction, and keeps a whole number
pub half_up-same : (a b c d : ℕ) → 0 < b → 0 < d → a * d ≡ c * b → half_up a b ≡ half_up c d
unfolding half_up
half_up-same a b c d B D e = div_same (2 * a + b) (2 * b) (2 * c + d) (2 * d) (mul-pos (zero-lt-suc 1) B) (mul-pos (zero-lt-suc 1) D) cross
  where
    cross : (2 * a + b) * (2 * d) ≡ (2 * c + d) * (2 * b)
    cross = omega (arith, e)

pub half_up-whole : (n d : ℕ) → 0 < d → half_up (n * d) d ≡ n
unfolding half_up
half_up-whole n d D = ap (λ (z : ℕ). z / (2 * d)) split ∙ digits_div n (less d D)
  where
    split : 2 * (n * d) + d ≡ n * (2 * d) + d
    split = omega arith

    less : (k : ℕ) → 0 < k → k < 2 * k
    less k h = omega arith

-- ---- `half_up` takes the whole number nearest to a / c, and of two the larger
module _ (a c : ℕ) (C : 0 < c) where
  not-over : 2 * (half_up a c * c) ≤ 2 * a + c
  unfolding half_up
  not-over = omega (arith, div-add-mod' (2 * a + c) (2 * c))

  not-under : 2 * a < 2 * (half_up a c * c) + c
  unfolding half_up
  not-under = omega (arith, div-add-mod' (2 * a + c) (2 * c), mod-lt (2 * a + c) (mul-pos (zero-lt-suc 1) C))

  -- N and K stand for the multiples of c by `halfUp a c` and by another number
  less-near : (N K : ℕ) → 2 * N ≤ 2 * a + c → 2 * a < 2 * N + c → K + c ≤ N → a - N + (N - a) ≤ a - K + (K - a)
  less-near N K h k l = omega arith

  more-near : (N K : ℕ) → 2 * N ≤ 2 * a + c → 2 * a < 2 * N + c → N + c ≤ K → a - N + (N - a) < a - K + (K - a)
  more-near N K h k l = omega arith

  more : (k : ℕ) → half_up a c < k → half_up a c * c + c ≤ k * c
  more k l = omega (arith, mul-le-mul_right c l)

  less : (k : ℕ) → k < half_up a c → k * c + c ≤ half_up a c * c
  less k l = omega (arith, mul-le-mul_right c l)

  pub half_nearest : (k : ℕ) → a - half_up a c * c + (half_up a c * c - a) ≤ a - k * c + (k * c - a)
  half_nearest k = elim (lt_or_le k (half_up a c)) [
    | inl l ↦ less-near (half_up a c * c) (k * c) not-over not-under (less k l)
    | inr g ↦ elim (lt_or_le (half_up a c) k) [
      | inl l ↦ le_of_lt (more-near (half_up a c * c) (k * c) not-over not-under (more k l))
      | inr l ↦ le_of_eq (ap (λ (z : ℕ). a - z * c + (z * c - a)) (le_antisymm g l))
    ]
  ]

  pub half-away : (k : ℕ) → a - k * c + (k * c - a) ≡ a - half_up a c * c + (half_up a c * c - a) → k ≤ half_up a c
  half-away k e = elim (lt_or_le (half_up a c) k) [
    | inl l ↦ absurd (lt_irrefl _ (lt_of_lt_of_le (more-near (half_up a c * c) (k * c) not-over not-under (more k l)) (le_of_eq e)))
    | inr l ↦ l
  ]

-- ---- at any fraction a / c that x equals
nearest_at : (x : Float) (s : Bool) (a c : ℕ) → 0 < c → HasValue x s a c → nearest_whole x ≡ round binary64 s (half_up a c) 1
unfolding nearest_whole
nearest_at nan s a c C h = absurd h
nearest_at (inf t) s a c C h = absurd h
nearest_at (fin t m e) s a c C h =
    ap (λ (z : Bool). round binary64 z (half_up (m * up e) (down e)) 1) h.0
    ∙ ap (λ (z : ℕ). round binary64 s z 1) (half_up-same (m * up e) (down e) a c (down_pos e) C h.1)

-- ---- from 2 ^ 52 on a float is a whole number
rescale : (x : Float) (s : Bool) (n l : ℕ) → 0 < l → HasValue x s (n * l) l → HasValue x s n 1
rescale nan s n l L h = absurd h
rescale (inf t) s n l L h = absurd h
rescale (fin t m e) s n l L h = (h.0, eq_of_mul-eq-mul_right l L (m * up e * 1) (n * down e) (ap (λ (z : ℕ). z * l) (mul-one (m * up e)) ∙ h.1 ∙ mul_right_comm n l (down e)))

kept : (x : Float) (s : Bool) (q i : ℕ) → T (fits binary64 x) → q < 2 ^ 53 → i ≤ 971 → HasValue x s (q * 2 ^ i * 2 ^ 1074) (2 ^ 1074) → x ≡ nearest_whole x
kept x s q i F Q I h =
    let l = 2 ^ 1074 in
    let n = q * 2 ^ i in
    let fine : q * 2 ^ (i + 1074) < 2 ^ 2098 = lt_of_lt_of_le (shl_lt 53 (i + 1074) Q) (pow_mono (room i I)) in
    let at : HasValue (round binary64 s n 1) s n 1 =
    round_exact binary64 s n 1 q (i + 1074) (zero-lt-suc 0) Q fine
    (mul_assoc q (2 ^ i) l ∙ ap (λ (z : ℕ). q * z) (sym (pow-add 2 i 1074)) ∙ sym (mul-one (q * 2 ^ (i + 1074)))) in
    whole_unique binary64 x (round binary64 s n 1) s n F (round-fits binary64 s n 1) (rescale x s n l (pow_pos 1074) h) at
    ∙ ap (λ (z : ℕ). round binary64 s z 1) (sym (half_up-whole n l (pow_pos 1074)))
    ∙ sym (nearest_at x s (n * l) l (pow_pos 1074) h)
  where
    room : (i : ℕ) → i ≤ 971 → 53 + (i + 1074) ≤ 2098
    room i h = omega arith

-- a field from 1075 on: a whole number already, or an infinity
is_top : (x : Float) (s : Bool) (b : Bool) → x ≡ cond b (inf s) nan → x ≡ nearest_whole x
unfolding nearest_whole
is_top x s true h = h ∙ sym (ap nearest_whole h)
is_top x s false h = h ∙ sym (ap nearest_whole h)

with_lead : (t : ℕ) → t < 2 ^ 52 → 2 ^ 52 + t < 2 ^ 53
with_lead t h = omega arith

shifted : (j t : ℕ) → 1075 ≤ suc j → (2 ^ 52 + t) * 2 ^ j ≡ (2 ^ 52 + t) * 2 ^ (suc j - 1075) * 2 ^ 1074
shifted j t lo = ap (λ (z : ℕ). (2 ^ 52 + t) * 2 ^ z) (sym (back j lo)) ∙ ap (λ (z : ℕ). (2 ^ 52 + t) * z) (pow-add 2 (suc j - 1075) 1074) ∙ sym (mul_assoc (2 ^ 52 + t) (2 ^ (suc j - 1075)) (2 ^ 1074))
  where
    back : (j : ℕ) → 1075 ≤ suc j → suc j - 1075 + 1074 ≡ j
    back j h = omega arith

-- which one
pub at_field : (x : Float) (s : Bool) (f t : ℕ) → 1075 ≤ f → HasValue x s (units_of f t) (2 ^ 1074) → HasValue x s ((2 ^ 52 + t) * 2 ^ (f - 1075)) 1
at_field x s zero t lo v = absurd (never lo)
  where
    never : 1075 ≤ 0 → ⊥
    never h = omega arith
at_field x s (suc j) t lo v = rescale x s ((2 ^ 52 + t) * 2 ^ (suc j - 1075)) (2 ^ 1074) (pow_pos 1074) (subst (λ (z : ℕ). HasValue x s z (2 ^ 1074)) (shifted j t lo) v)

large : (x : Float) (s : Bool) (f t : ℕ) → T (fits binary64 x) → t < 2 ^ 52 → 1075 ≤ f → f < 2047 → HasValue x s (units_of f t) (2 ^ 1074) → x ≡ nearest_whole x
large x s zero t F D lo hi v = absurd (never lo)
  where
    never : 1075 ≤ 0 → ⊥
    never h = omega arith
large x s (suc j) t F D lo hi v =
    kept x s (2 ^ 52 + t) (suc j - 1075) F (with_lead t D) (most j hi)
    (subst (λ (z : ℕ). HasValue x s z (2 ^ 1074)) (shifted j t lo) v)
  where
    most : (j : ℕ) → suc j < 2047 → suc j - 1075 ≤ 971
    most j h = omega arith

pub whole_already : (x : Float) → T (fits binary64 x) → 1075 ≤ field_of (to_bits binary64 x) → x ≡ nearest_whole x
whole_already x F lo =
    let b = to_bits binary64 x in
    elim (lt_or_le (field_of b) 2047) [
      | inl l ↦ large x (sign_of b) (field_of b) (digits_of b) F (digits_lt b) lo l (value_of x F l)
      | inr g ↦ is_top x (sign_of b) (eqb (digits_of b) 0) (own_bits x F ∙ of_bits_is b ∙ top-value (sign_of b) (field_of b) (digits_of b) g (field_lt b))
    ]

-- ---- below that: what the code works out
half-below : (u h : ℕ) → u < h → half_up u (2 * h) ≡ 0
unfolding half_up
half-below u h l = div-eq_of_lt (less u h l)
  where
    less : (u h : ℕ) → u < h → 2 * u + 2 * h < 2 * (2 * h)
    less u h l = omega arith

units_small : (f t : ℕ) → t < 2 ^ 52 → f < 1022 → units_of f t < 2 ^ 1073
units_small zero t D h = lt_of_lt_of_le (shl_lt 52 0 D) (pow_mono {i = 52} {j = 1073} (lit≤ tt))
units_small (suc j) t D h = lt_of_lt_of_le (shl_lt 53 j (with_lead t D)) (pow_mono (room j h))
  where
    room : (j : ℕ) → suc j < 1022 → 53 + j ≤ 1073
    room j h = omega arith

pub half_low : (f t : ℕ) → t < 2 ^ 52 → f < 1022 → 0 ≡ half_up (units_of f t) (2 ^ 1074)
half_low f t D h = sym (half-below (units_of f t) (2 ^ 1073) (units_small f t D h))

half-shift : (q p : ℕ) → 0 < p → half_up q (2 * p) ≡ (q / p + 1) / 2
unfolding half_up
half-shift q p P =
    ap (λ (z : ℕ). z / (2 * (2 * p))) (twice q p)
    ∙ ap (λ (z : ℕ). (q + p) * 2 / z) (four p)
    ∙ mul-div-mul_right (q + p) (p * 2) (zero-lt-suc 1)
    ∙ sym (div-div-eq-div-mul (q + p) p 2)
    ∙ ap (λ (z : ℕ). z / 2) (add-div_right q P)
  where
    twice : (q p : ℕ) → 2 * q + 2 * p ≡ (q + p) * 2
    twice q p = omega arith

    four : (p : ℕ) → 2 * (2 * p) ≡ p * 2 * 2
    four p = omega arith

pub half_mid : (f t : ℕ) → 1022 ≤ f → f < 1075 → ((2 ^ 52 + t) / 2 ^ (1074 - f) + 1) / 2 ≡ half_up (units_of f t) (2 ^ 1074)
half_mid zero t lo hi = absurd (never lo)
  where
    never : 1022 ≤ 0 → ⊥
    never h = omega arith
half_mid (suc j) t lo hi =
    let q = 2 ^ 52 + t in
    let c = 1074 - suc j in
    let p = 2 ^ c in
    let whole : 2 * p * 2 ^ j ≡ 2 ^ 1074 = ap (λ (z : ℕ). z * 2 ^ j) (mul_comm 2 p ∙ sym (pow-suc 2 c)) ∙ sym (pow-add 2 (suc c) j) ∙ ap (λ (z : ℕ). 2 ^ z) (join j hi) in
    sym (half-shift q p (pow_pos c))
    ∙ half_up-same q (2 * p) (q * 2 ^ j) (2 ^ 1074) (mul-pos (zero-lt-suc 1) (pow_pos c)) (pow_pos 1074)
    (ap (λ (z : ℕ). q * z) (sym whole) ∙ ap (λ (z : ℕ). q * z) (mul_comm (2 * p) (2 ^ j)) ∙ sym (mul_assoc q (2 ^ j) (2 * p)))
  where
    join : (j : ℕ) → suc j < 1075 → suc (1074 - suc j) + j ≡ 1074
    join j h = omega arith

-- what the code moves right, and by how much
pub half_at_lem : (f t k : ℕ) → t < 2 ^ 52 → f < 1075 → ((f < 1011) × (k ≡ 63)) ⊎ ((1011 ≤ f) × (k ≡ 1074 - f)) → ((2 ^ 52 + t) / 2 ^ k + 1) / 2 ≡ half_up (units_of f t) (2 ^ 1074)
half_at_lem f t k D h c = go (lt_or_le f 1022)
  where
    far : ((f < 1011) × (k ≡ 63)) ⊎ ((1011 ≤ f) × (k ≡ 1074 - f)) → f < 1022 → 53 ≤ k
    far (inl w) l = omega arith
    far (inr w) l = omega arith

    is : ((f < 1011) × (k ≡ 63)) ⊎ ((1011 ≤ f) × (k ≡ 1074 - f)) → 1022 ≤ f → k ≡ 1074 - f
    is (inl w) l = omega arith
    is (inr w) l = w.1

    go : (f < 1022) ⊎ (1022 ≤ f) → ((2 ^ 52 + t) / 2 ^ k + 1) / 2 ≡ half_up (units_of f t) (2 ^ 1074)
    go (inl l) = ap (λ (z : ℕ). (z + 1) / 2) (div-eq_of_lt (lt_of_lt_of_le (with_lead t D) (pow_mono (far c l)))) ∙ half_low f t D l
    go (inr l) = ap (λ (z : ℕ). ((2 ^ 52 + t) / 2 ^ z + 1) / 2) (is c l) ∙ half_mid f t l h

-- ---- the sign's bit, put to a whole number that has none
scaled : (x : Float) (s : Bool) (n l : ℕ) → HasValue x s n 1 → HasValue x s (n * l) l
scaled nan s n l h = absurd h
scaled (inf t) s n l h = absurd h
scaled (fin t m e) s n l h = (h.0, ap (λ (z : ℕ). z * l) (sym (mul-one (m * up e)) ∙ h.1) ∙ mul_right_comm n (down e) l)

number_of : (x : Float) (s : Bool) (a c : ℕ) → HasValue x s a c → is_nan x ≡ false
unfolding is_nan
number_of nan s a c h = absurd h
number_of (inf t) s a c h = absurd h
number_of (fin t m e) s a c h = refl

module _ (n : ℕ) (z : ℤ) (e : z ≡ pos n) (h : n ≤ 2 ^ 53) where
  -- z as a float, and that with a sign
  abbrev v : Float
  v = of_int binary64 z

  abbrev w : Bool → Float
  w s = round binary64 s n 1

  v_is : v ≡ w false
  unfolding of_int
  v_is = ap (of_int binary64) e

  bits-w : (s : Bool) → to_bits binary64 (w s) ≡ cond s (2 ^ 63) 0 + (size (n * 2 ^ 1074) - 53) * 2 ^ 52 + n * 2 ^ 1074 / 2 ^ (size (n * 2 ^ 1074) - 53)
  bits-w s = to_bits-at (w s) s (n * 2 ^ 1074) (scaled (w s) s n (2 ^ 1074) (round_whole binary64 s n h))

  sign_bit : to_bits binary64 v + 2 ^ 63 ≡ to_bits binary64 (w true)
  sign_bit = ap (λ (y : Float). to_bits binary64 y + 2 ^ 63) v_is ∙ ap (λ (k : ℕ). k + 2 ^ 63) (bits-w false) ∙ turn ((size (n * 2 ^ 1074) - 53) * 2 ^ 52) (n * 2 ^ 1074 / 2 ^ (size (n * 2 ^ 1074) - 53)) ∙ sym (bits-w true)
    where
      turn : (a b : ℕ) → 0 + a + b + 2 ^ 63 ≡ 2 ^ 63 + a + b
      turn a b = omega arith

  pub v-small : to_bits binary64 v < 2 ^ 63
  v-small = omega (arith, sign_bit, to_bits-lt binary64 (w true) (round-fits binary64 true n 1))

  pub v-number : T (not (is_nan v))
  v-number = subst (λ (t : Bool). T (not t)) (sym (ap is_nan v_is ∙ number_of (w false) false n 1 (round_whole binary64 false n h))) tt

  pub v-signed : (b : ℕ) → b < 2 ^ 64 → of_bits binary64 (to_bits binary64 v + b / 2 ^ 63 * 2 ^ 63) ≡ w (sign_of b)
  v-signed b B = elim (lt_or_le b (2 ^ 63)) [
    | inl l ↦
        let q : to_bits binary64 v + b / 2 ^ 63 * 2 ^ 63 ≡ to_bits binary64 v = omega arith in
        ap (of_bits binary64) (q ∙ ap (to_bits binary64) v_is) ∙ of_bits-to_bits binary64 (w false) (round-fits binary64 false n 1) ∙ ap w (sym (lt-leb (2 ^ 63) b l))
    | inr g ↦
        let q : to_bits binary64 v + b / 2 ^ 63 * 2 ^ 63 ≡ to_bits binary64 v + 2 ^ 63 = omega arith in
        ap (of_bits binary64) (q ∙ sign_bit) ∙ of_bits-to_bits binary64 (w true) (round-fits binary64 true n 1) ∙ ap w (sym (le-leb (2 ^ 63) b g))
  ]

  pub v_pattern : (b : ℕ) → b < 2 ^ 64 → T (not (nan_bits binary64 (to_bits binary64 v + b / 2 ^ 63 * 2 ^ 63)))
  v_pattern b B =
      subst (λ (t : Bool). T (not t))
      (sym (nan_bits_is binary64 (to_bits binary64 v + b / 2 ^ 63 * 2 ^ 63) ∙ ap is_nan (v-signed b B) ∙ number_of (w (sign_of b)) (sign_of b) n 1 (round_whole binary64 (sign_of b) n h))) tt

-- ---- the nearest whole number of x, by its pattern
pub at_bits : (x : Float) → T (fits binary64 x) → (n : ℕ) → field_of (to_bits binary64 x) < 1075 → n ≡ half_up (units_of (field_of (to_bits binary64 x)) (digits_of (to_bits binary64 x))) (2 ^ 1074) → round binary64 (sign_of (to_bits binary64 x)) n 1 ≡ nearest_whole x
at_bits x F n h e =
    let b = to_bits binary64 x in
    ap (λ (z : ℕ). round binary64 (sign_of b) z 1) e ∙ sym (nearest_at x (sign_of b) (units_of (field_of b) (digits_of b)) (2 ^ 1074) (pow_pos 1074) (value_of x F (lt_of_lt_of_le h (lit≤ tt))))

-- ---- a NaN
pub nan_kept : (x : Float) → ne x x ≡ true → x ≡ nearest_whole x
unfolding nearest_whole
nan_kept x h =
    let e : x ≡ nan = differs_from_itself x (subst T (sym h) tt) in
    e ∙ sym (ap nearest_whole e)

pub no_nan : (x : Float) → ne x x ≡ false → T (not (is_nan x))
unfolding is_nan
no_nan nan h = absurd (true≢false (sym nan_differs ∙ h))
no_nan (inf s) h = tt
no_nan (fin s m e) h = tt

-- ---- `round` changes nothing in the definition: of a finite x, the nearest whole number is a value of the format
half_le : (f t : ℕ) → t < 2 ^ 52 → f < 1075 → half_up (units_of f t) (2 ^ 1074) ≤ 2 ^ 53
half_le f t D h = go (lt_or_le f 1022)
  where
    go : (f < 1022) ⊎ (1022 ≤ f) → half_up (units_of f t) (2 ^ 1074) ≤ 2 ^ 53
    go (inl l) = subst (λ (z : ℕ). z ≤ 2 ^ 53) (half_low f t D l) zero-le
    go (inr l) = subst (λ (z : ℕ). z ≤ 2 ^ 53) (half_mid f t l h) (omega (arith, div-le_self (2 ^ 52 + t) (2 ^ (1074 - f))))

small-exact : (x : Float) → T (fits binary64 x) → field_of (to_bits binary64 x) < 1075
    → HasValue (nearest_whole x) (sign_of (to_bits binary64 x)) (half_up (units_of (field_of (to_bits binary64 x)) (digits_of (to_bits binary64 x))) (2 ^ 1074)) 1
small-exact x F h =
    let b = to_bits binary64 x in
    let n = half_up (units_of (field_of b) (digits_of b)) (2 ^ 1074) in
    subst (λ (v : Float). HasValue v (sign_of b) n 1) (sym (nearest_at x (sign_of b) (units_of (field_of b) (digits_of b)) (2 ^ 1074) (pow_pos 1074) (value_of x F (lt_of_lt_of_le h (lit≤ tt)))))
    (round_whole binary64 (sign_of b) n (half_le (field_of b) (digits_of b) (digits_lt b) h))

pub whole-exact : (s : Bool) (m : ℕ) (e : ℤ) → T (fits binary64 (fin s m e)) → HasValue (nearest_whole (fin s m e)) s (half_up (m * up e) (down e)) 1
whole-exact s m e F = go (lt_or_le (field_of b) 1075)
  where
    x : Float
    x = fin s m e

    b : ℕ
    b = to_bits binary64 x

    v : HasValue x (sign_of b) (units_of (field_of b) (digits_of b)) (2 ^ 1074)
    v = value_of x F (field_in x F tt)

    go : (field_of b < 1075) ⊎ (1075 ≤ field_of b) → HasValue (nearest_whole x) s (half_up (m * up e) (down e)) 1
    go (inl l) =
        subst (λ (t : Bool). HasValue (nearest_whole x) t (half_up (m * up e) (down e)) 1) (sym v.0)
        (subst (λ (n : ℕ). HasValue (nearest_whole x) (sign_of b) n 1) (sym (half_up-same (m * up e) (down e) (units_of (field_of b) (digits_of b)) (2 ^ 1074) (down_pos e) (pow_pos 1074) v.1)) (small-exact x F l))
    go (inr g) =
        let w = at_field x (sign_of b) (field_of b) (digits_of b) g v in
        let n = (2 ^ 52 + digits_of b) * 2 ^ (field_of b - 1075) in
        let h : half_up (m * up e) (down e) ≡ n = half_up-same (m * up e) (down e) (n * 1) 1 (down_pos e) (zero-lt-suc 0) (w.1 ∙ ap (λ (z : ℕ). z * down e) (sym (mul-one n))) ∙ half_up-whole n 1 (zero-lt-suc 0) in
        subst (λ (v : Float). HasValue v s (half_up (m * up e) (down e)) 1) (whole_already x F g) (refl, w.1 ∙ ap (λ (z : ℕ). z * down e) (sym h))

-- a whole number as an integer
pub signed-whole : (v : Float) (s : Bool) (n : ℕ) → HasValue v s n 1 → to_signed 63 v ≡ cond s (neg_ℤ (pos (min n (2 ^ 63)))) (pos (min n (2 ^ 63 - 1)))
unfolding to_signed
signed-whole nan s n h = absurd h
signed-whole (inf t) s n h = absurd h
signed-whole (fin t m e) s n h = rw (h.0, ap (λ (z : ℕ). z / down e) (sym (mul-one (m * up e)) ∙ h.1) ∙ mul-div_cancel n (down_pos e))
