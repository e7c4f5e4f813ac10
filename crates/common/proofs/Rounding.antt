-- A rounded root, from the whole part of the root with 54 digits. Assumes nothing.
use Rattle.std.specs.Prelude.{◌≡◌, Bool, true, not, cond, ◌⊎◌, eqb, Float}
use Rattle.std.proofs.Math.Path.{sym}
use Rattle.std.proofs.Common.{ap, ◌∙◌, subst, inl, inr, le_trans, le_of_lt, le_of_eq, le_antisymm, le_of_suc-le-suc, lt_of_lt_of_le, lt_of_le_of_lt, lt_of_not-le, lt_irrefl, zero-lt-suc, mul_assoc, mul-pos, mul-le-mul_right, mul-lt-mul_of_pos_right, lt_of_mul-lt-mul_right, div-add-mod', mod-lt, le-div_iff_mul-le, div-lt_iff_lt-mul, arith, leb→le, eqb→eq, pow-add, pow_pos, pow_mono, shl_lt}
use Rattle.std.proofs.Math.Bool.{false}
use Rattle.std.proofs.lemmas.Bool.{lt-leb}
use Prim.Native.Nat.{ℕ, zero, suc, ◌+◌, ◌-◌, ◌*◌, ◌/◌, ◌%◌, ◌^◌, ◌≤◌, ◌<◌, compare, Ordering}
use Rattle.std.proofs.Math.Nat.{mul-mul-mul_comm, mul-div-mul_right}
use Rattle.std.proofs.Math.Dec.{T, is_le, compare_is_eq, nleb→lt, eqb_refl}
use Rattle.std.proofs.Math.Arith.{lt_of_le-ne}
use Rattle.std.specs.Float.Ieee.{binary64, size, nearest, units, round, fits, of_bits}
use Rattle.std.specs.Float.Ieee.Digits.{size-lt, size-le}
use Rattle.std.specs.Float.Ieee.Fits.{round_is, round-fits}
use Rattle.std.specs.Float.Ieee.Bits.{of_bits-fits}
use Rattle.std.specs.Float.Ieee.Exact.{HasValue, units_val}
use Rattle.std.specs.Float.Ieee.Nearest.{closest}
use Rattle.common.specs.Root.{root, rounded_root}
use Rattle.common.specs.RootLaws.{WholeRoot}
use Rattle.common.proofs.RootLaws.{root_is}
use Rattle.common.specs.Laws.Fields.{units_of, sign_of, field_of, digits_of, bits-value, lt_or_le, same-value}
use Rattle.common.specs.Laws.Squares.{root_lt, square_mono}

-- ---- the digit that says whether anything is left over: which side of 2 * t the number lies says which side of t * t n lies
abbrev pub sticky : ℕ → ℕ → ℕ
sticky r n = 2 * r + cond (eqb (r * r) n) 0 1

at_least : (r n : ℕ) → 2 * r ≤ sticky r n
at_least r n = omega arith

at_most : (r n : ℕ) → sticky r n ≤ 2 * r + 1
at_most r n = go (eqb (r * r) n)
  where
    go : (b : Bool) → 2 * r + cond b 0 1 ≤ 2 * r + 1
    go true = omega arith
    go false = omega arith

sticky_ge : (r n t : ℕ) → WholeRoot n r → t * t ≤ n → 2 * t ≤ sticky r n
sticky_ge r n t w h = omega (arith, root_lt t (r + 1) (lt_of_le_of_lt h w.1), at_least r n)

sticky_gt : (r n t : ℕ) → WholeRoot n r → t * t < n → 2 * t < sticky r n
sticky_gt r n t w h = go (eqb (r * r) n) (eqb→eq (r * r) n)
  where
    go : (b : Bool) → (T b → r * r ≡ n) → 2 * t < 2 * r + cond b 0 1
    go true e = omega (arith, root_lt t r (lt_of_lt_of_le h (le_of_eq (sym (e tt)))))
    go false e = omega (arith, root_lt t (r + 1) (lt_of_lt_of_le h (le_of_lt w.1)))

sticky_lt : (r n t : ℕ) → WholeRoot n r → n < t * t → sticky r n < 2 * t
sticky_lt r n t w h = omega (arith, at_most r n, root_lt r t (lt_of_le_of_lt w.0 h))

-- ---- a / b to the nearest whole number, where that is no tie
abbrev Cmp : Ordering → ℕ → ℕ → Type 0
Cmp Ordering.lt a b = a < b
Cmp Ordering.eq a b = a ≡ b
Cmp Ordering.gt a b = b < a

cmp : (a b : ℕ) → Cmp (compare a b) a b
cmp a b = go (compare a b) (leb→le a b) (nleb→lt a b) (eqb→eq a b) (λ (e : a ≡ b). subst (λ (x : ℕ). T (eqb a x)) e (eqb_refl a))
  where
    go : (o : Ordering) → (T (is_le o) → a ≤ b) → (T (not (is_le o)) → b < a) → (T (compare_is_eq o) → a ≡ b) → (a ≡ b → T (compare_is_eq o)) → Cmp o a b
    go Ordering.lt h k e n = lt_of_le-ne (h tt) n
    go Ordering.eq h k e n = e tt
    go Ordering.gt h k e n = k tt

less : (b x y : ℕ) → x * b < suc y * b → x ≤ y
less b x y h = le_of_suc-le-suc (lt_of_mul-lt-mul_right b h)

closest_at : (o : Ordering) (a b m w r : ℕ) → Cmp o (r * 2) b → w * b + r ≡ a → r < b → 2 * m * b < 2 * a + b → 2 * a < (2 * m + 1) * b → nearest w o ≡ m
closest_at Ordering.lt a b m w r c e R lo hi = le_antisymm (less b w m (omega arith)) (less b m w (omega arith))
closest_at Ordering.eq a b m w r c e R lo hi = absurd (no (less b m w (omega arith)) (less b (suc w) m (omega arith)))
  where
    no : m ≤ w → suc w ≤ m → ⊥
    no h k = omega arith
closest_at Ordering.gt a b m w r c e R lo hi = le_antisymm (less b (suc w) m (omega arith)) (less b m (suc w) (omega arith))

pub closest_is : (a b m : ℕ) → 0 < b → 2 * m * b < 2 * a + b → 2 * a < (2 * m + 1) * b → closest a b ≡ m
closest_is a b m B lo hi = closest_at (compare (a % b * 2) b) a b m (a / b) (a % b) (cmp (a % b * 2) b) (div-add-mod' a b) (mod-lt a B) lo hi

-- ---- how many digits a number has
size_is : (z k : ℕ) → 2 ^ (52 + k) ≤ z → z < 2 ^ (53 + k) → size z - 53 ≡ k
size_is z k lo hi = finish (size z) k (size-le z (53 + k) hi) (lt_of_not-le (λ (g : size z ≤ 52 + k). lt_irrefl z (lt_of_lt_of_le (lt_of_lt_of_le (size-lt z) (pow_mono g)) lo)))
  where
    finish : (a k : ℕ) → a ≤ 53 + k → 52 + k < a → a - 53 ≡ k
    finish a k h l = omega arith

-- ---- the number that is rounded, y / 4 units, lies strictly between the two ties about m * 2 ^ k units
-- twice r halved, rounded up
pub halved : (r : ℕ) → (2 * ((r + 1) / 2) ≡ r) ⊎ (2 * ((r + 1) / 2) ≡ r + 1)
halved r = go (lt_or_le (r % 2) 1)
  where
    go : (r % 2 < 1) ⊎ (1 ≤ r % 2) → (2 * ((r + 1) / 2) ≡ r) ⊎ (2 * ((r + 1) / 2) ≡ r + 1)
    go (inl h) = inl (omega arith)
    go (inr h) = inr (omega arith)

-- an odd number's square is odd
pub odd_square : (n r m : ℕ) → n % 2 ≡ 0 → 2 * m ≡ r + 1 → r * r ≡ n → ⊥
odd_square n r m E e h = go (ap (λ (z : ℕ). z * z) e)
  where
    go : 2 * m * (2 * m) ≡ (r + 1) * (r + 1) → ⊥
    go k = omega arith

module _ (n r p : ℕ) (P : 0 < p) (w : WholeRoot n r) where
  abbrev N : ℕ
  N = n * (p * p)

  abbrev y : ℕ
  y = sticky (root N) N

  y_ge : (t : ℕ) → t * t ≤ n → 2 * (t * p) ≤ y
  y_ge t h = sticky_ge (root N) N (t * p) (root_is N) (le_trans (le_of_eq (mul-mul-mul_comm t p t p)) (mul-le-mul_right (p * p) h))

  y_gt : (t : ℕ) → t * t < n → 2 * (t * p) < y
  y_gt t h = sticky_gt (root N) N (t * p) (root_is N) (lt_of_le_of_lt (le_of_eq (mul-mul-mul_comm t p t p)) (mul-lt-mul_of_pos_right h (mul-pos P P)))

  y_lt : (t : ℕ) → n < t * t → y < 2 * (t * p)
  y_lt t h = sticky_lt (root N) N (t * p) (root_is N) (lt_of_lt_of_le (mul-lt-mul_of_pos_right h (mul-pos P P)) (le_of_eq (sym (mul-mul-mul_comm t p t p))))

  -- m is r halved, rounded up; n is even, so an odd r leaves something over
  over : (m : ℕ) → n % 2 ≡ 0 → (2 * m ≡ r) ⊎ (2 * m ≡ r + 1) → 2 * (2 * m * p) < y + 2 * p
  over m E (inl e) = omega (arith, y_ge r w.0, ap (λ (z : ℕ). z * p) e, P)
  over m E (inr e) = omega (arith, y_gt r (lt_of_le-ne w.0 (odd_square n r m E e)), ap (λ (z : ℕ). z * p) e)

  under : (m : ℕ) → (2 * m ≡ r) ⊎ (2 * m ≡ r + 1) → y < 2 * ((2 * m + 1) * p)
  under m c = y_lt (2 * m + 1) (lt_of_lt_of_le w.1 (square_mono (r + 1) (2 * m + 1) (most c)))
    where
      most : (2 * m ≡ r) ⊎ (2 * m ≡ r + 1) → r + 1 ≤ 2 * m + 1
      most (inl e) = omega arith
      most (inr e) = omega arith

  lower : 2 ^ 53 ≤ r → 2 ^ 52 * p ≤ y / 4
  lower h = (le-div_iff_mul-le (zero-lt-suc 3)).1 (omega (arith, y_ge r w.0, mul-le-mul_right p h))

  upper : r + 2 ≤ 2 ^ 54 → y / 4 < 2 ^ 53 * p
  upper h = (div-lt_iff_lt-mul (zero-lt-suc 3)).1 (omega (arith, y_lt (r + 1) w.1, mul-le-mul_right p h))

-- the same at y * l over 4 * l * p, as `round` has it
tie_below : (m y p l : ℕ) → 0 < l → 2 * (2 * m * p) < y + 2 * p → 2 * m * (4 * l * p) < 2 * (y * l) + 4 * l * p
tie_below m y p l L h = omega (arith, mul-lt-mul_of_pos_right h L)

tie_above : (m y p l : ℕ) → 0 < l → y < 2 * ((2 * m + 1) * p) → 2 * (y * l) < (2 * m + 1) * (4 * l * p)
tie_above m y p l L h = omega (arith, mul-lt-mul_of_pos_right h L)

-- ---- the pattern of m * 2 ^ k units, for an m of 53 digits
module _ (k m : ℕ) (K : k < 2046) (lo : 2 ^ 52 ≤ m) (hi : m < 2 ^ 53) where
  abbrev b : ℕ
  b = k * 2 ^ 52 + m

  field_is : field_of b ≡ suc k
  field_is = omega arith

  digits_are : digits_of b ≡ m - 2 ^ 52
  digits_are = omega arith

  sign_is : sign_of b ≡ false
  sign_is = lt-leb (2 ^ 63) b (omega arith)

  pub pattern_value : HasValue (of_bits binary64 b) false (m * 2 ^ k) (2 ^ 1074)
  pattern_value =
      subst (λ (z : ℕ). HasValue (of_bits binary64 b) false z (2 ^ 1074)) (ap (λ (z : ℕ). (2 ^ 52 + z) * 2 ^ k) digits_are ∙ ap (λ (z : ℕ). z * 2 ^ k) whole)
      (subst (λ (z : ℕ). HasValue (of_bits binary64 b) false (units_of z (digits_of b)) (2 ^ 1074)) field_is
      (subst (λ (s : Bool). HasValue (of_bits binary64 b) s (units_of (field_of b) (digits_of b)) (2 ^ 1074)) sign_is (bits-value b (omega arith))))
    where
      whole : 2 ^ 52 + (m - 2 ^ 52) ≡ m
      whole = omega arith

  small : m * 2 ^ k < 2 ^ 2098
  small = lt_of_lt_of_le (shl_lt 53 k hi) (pow_mono {i = 53 + k} {j = 2098} (room k K))
    where
      room : (k : ℕ) → k < 2046 → 53 + k ≤ 2098
      room k h = omega arith

  pub pattern_is : T (fits binary64 (units binary64 false m k)) → units binary64 false m k ≡ of_bits binary64 b
  pattern_is F = same-value (units binary64 false m k) (of_bits binary64 b) false (m * 2 ^ k) F (of_bits-fits binary64 b) (units_val binary64 false m k small) pattern_value

-- ---- the rounded root of n * 4 ^ k, in units of 2 ^ -1075, is the pattern that the code makes of r, the whole part of n's root
module _ (n r k : ℕ) (w : WholeRoot n r) (E : n % 2 ≡ 0) (lo : 2 ^ 53 ≤ r) (hi : r + 2 ≤ 2 ^ 54) (K : k < 2046) where
  abbrev m : ℕ
  m = (r + 1) / 2

  abbrev y' : ℕ
  y' = sticky (root (n * (2 ^ k * 2 ^ k))) (n * (2 ^ k * 2 ^ k))

  dropped : size (y' * 2 ^ 1074 / 2 ^ 1076) - 53 ≡ k
  dropped =
      ap (λ (z : ℕ). size z - 53) (mul-div-mul_right y' 4 (pow_pos 1074))
      ∙ size_is (y' / 4) k (le_trans (le_of_eq (pow-add 2 52 k)) (lower n r (2 ^ k) (pow_pos k) w lo)) (lt_of_lt_of_le (upper n r (2 ^ k) (pow_pos k) w hi) (le_of_eq (sym (pow-add 2 53 k))))

  to_units : round binary64 false y' (2 ^ 1076) ≡ units binary64 false m k
  to_units =
      round_is binary64 false y' (2 ^ 1076)
      ∙ ap (λ (z : ℕ). units binary64 false (closest (y' * 2 ^ 1074) (2 ^ 1076 * 2 ^ z)) z) dropped
      ∙ ap (λ (z : ℕ). units binary64 false z k)
      (closest_is (y' * 2 ^ 1074) (2 ^ 1076 * 2 ^ k) m (mul-pos (pow_pos 1076) (pow_pos k))
      (tie_below m y' (2 ^ k) (2 ^ 1074) (pow_pos 1074) (over n r (2 ^ k) (pow_pos k) w m E (halved r)))
      (tie_above m y' (2 ^ k) (2 ^ 1074) (pow_pos 1074) (under n r (2 ^ k) (pow_pos k) w m (halved r))))

  pub rounded : of_bits binary64 (k * 2 ^ 52 + m) ≡ rounded_root binary64 (n * (2 ^ k * 2 ^ k)) 1075
  unfolding rounded_root
  rounded =
      sym (to_units ∙ pattern_is k m K (omega arith) (omega arith) (subst (λ (v : Float). T (fits binary64 v)) to_units (round-fits binary64 false y' (2 ^ 1076))))

pub twice-even : (n : ℕ) → n * 2 ^ 54 % 2 ≡ 0
twice-even n = omega arith

-- ---- the radicand n, of 53 or 54 digits: q, or twice q where the exponent is odd
radicand : (q i : ℕ) → i < 2 → 2 ^ 52 ≤ q → q < 2 ^ 53 → (q * 2 ^ i % 2 ^ 64 ≡ q * 2 ^ i) × (2 ^ 52 ≤ q * 2 ^ i % 2 ^ 64) × (q * 2 ^ i % 2 ^ 64 + 2 ≤ 2 ^ 54)
radicand q zero I lo hi = omega arith
radicand q (suc zero) I lo hi = omega arith
radicand q (suc (suc i)) I lo hi = absurd (never I)
  where
    never : suc (suc i) < 2 → ⊥
    never h = omega arith

module _ (q g : ℕ) (lo : 2 ^ 52 ≤ q) (hi : q < 2 ^ 53) where
  abbrev pub rad : ℕ
  rad = q * 2 ^ (g % 2) % 2 ^ 64

  parts : (rad ≡ q * 2 ^ (g % 2)) × (2 ^ 52 ≤ rad) × (rad + 2 ≤ 2 ^ 54)
  parts = radicand q (g % 2) (omega arith) lo hi

  pub rad_ge : 2 ^ 52 ≤ rad
  rad_ge = parts.1

  pub rad_lt : rad < 2 ^ 54
  rad_lt = omega (arith, parts.2)

  module _ (r : ℕ) (w : WholeRoot (rad * 2 ^ 54) r) where
    pub r_ge : 2 ^ 53 ≤ r
    r_ge = omega (arith, root_lt (2 ^ 53) (r + 1) (lt_of_le_of_lt (go rad rad_ge) w.1))
      where
        go : (n : ℕ) → 2 ^ 52 ≤ n → 2 ^ 53 * 2 ^ 53 ≤ n * 2 ^ 54
        go n h = omega arith

    pub r_le : r + 2 ≤ 2 ^ 54
    r_le = omega (arith, root_lt r (2 ^ 54 - 1) (lt_of_le_of_lt w.0 (go rad parts.2)))
      where
        go : (n : ℕ) → n + 2 ≤ 2 ^ 54 → n * 2 ^ 54 < (2 ^ 54 - 1) * (2 ^ 54 - 1)
        go n h = omega arith

    pub whole : rad * 2 ^ 54 * (2 ^ (g / 2) * 2 ^ (g / 2)) ≡ q * 2 ^ (g + 54)
    whole =
        let k = g / 2 in
        let i = g % 2 in
        ap (λ (z : ℕ). z * 2 ^ 54 * (2 ^ k * 2 ^ k)) parts.0
        ∙ ap (λ (z : ℕ). q * 2 ^ i * 2 ^ 54 * z) (sym (pow-add 2 k k))
        ∙ ap (λ (z : ℕ). z * 2 ^ (k + k)) (mul_assoc q (2 ^ i) (2 ^ 54) ∙ ap (λ (z : ℕ). q * z) (sym (pow-add 2 i 54)))
        ∙ mul_assoc q (2 ^ (i + 54)) (2 ^ (k + k))
        ∙ ap (λ (z : ℕ). q * z) (sym (pow-add 2 (i + 54) (k + k)) ∙ ap (λ (z : ℕ). 2 ^ z) (omega arith))

    pub root_pattern : g < 4090 → of_bits binary64 (g / 2 * 2 ^ 52 + (r + 1) / 2) ≡ rounded_root binary64 (q * 2 ^ (g + 54)) 1075
    root_pattern G = rounded (rad * 2 ^ 54) r (g / 2) w (twice-even rad) r_ge r_le (omega arith) ∙ ap (λ (z : ℕ). rounded_root binary64 z 1075) whole
