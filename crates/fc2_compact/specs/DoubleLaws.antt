-- The mean of two equal numbers is that number, unless their sum overflows: (x + x) / 2 is x. A half, and so every mean of two numbers, is
-- small enough for that. Assumes nothing.
use Rattle.std.specs.Prelude.{◌≡◌, refl, Bool, true, false, ◌&&◌, ℤ, pos, negsuc, T, eqb, ltb, leb, Float}
use Rattle.std.proofs.Common.{sym, ap, ◌∙◌, subst, ⊎_elim, mul-one, one-mul, mul-pos, zero-lt-suc, mul_comm, mul_assoc, lt_of_lt_of_le, lt_irrefl, mul-le-mul_right, mul_right_comm, mul-lt-mul_of_pos_right, lt_of_mul-lt-mul_right, lt_of_le_of_lt, div-lt_iff_lt-mul, not-le_of_lt, le_trans, le_of_eq, arith, eqb→eq, ltb→lt, leb→le, lit<, pow-add, pow_pos}
use Prim.Native.Nat.{ℕ, zero, suc, ◌+◌, ◌-◌, ◌*◌, ◌/◌, ◌%◌, ◌^◌, ◌<◌, ◌≤◌, compare}
use Rattle.std.proofs.Math.Nat.{pow-succ'}
use Rattle.std.proofs.Math.Pow.{pow-lt}
use Rattle.std.specs.Float.{nan, inf, fin, Format, binary64}
use Rattle.std.specs.Float.Ieee.{prec, emax, low, up, down, size, units, round, add, sum, div, fits, of_bits}
use Rattle.std.specs.Float.Ieee.Digits.{size-le}
use Rattle.std.specs.Float.Ieee.Fits.{and_l, and_r, up_pos, down_pos, core, nearest-le, round_is, round-fits}
use Rattle.std.specs.Float.Ieee.Exact.{HasValue, round_exact, units_val}
use Rattle.std.specs.Float.Ieee.Nearest.{closest}
use Rattle.std.specs.Float.Ieee.Scale.{round_same}
use Rattle.lists.specs.Cases.{lt_or_le}
use Rattle.lines.specs.Sums3x3.{half}

-- ---- an odd number times a power of two is written in one way

even_odd : (m t : ℕ) → m % 2 ≡ 1 → m ≡ 2 * t → ⊥
even_odd m t o h = omega arith

twice : (m p : ℕ) → m * (2 * p) ≡ 2 * (m * p)
twice m p = omega arith

doubled : (k : ℕ) → 2 ^ suc k ≡ 2 * 2 ^ k
doubled k = pow-succ' 2 k

odd_pow : (m n a b : ℕ) → m % 2 ≡ 1 → n % 2 ≡ 1 → m * 2 ^ a ≡ n * 2 ^ b → (m ≡ n) × (a ≡ b)
odd_pow m n zero zero o p h = (sym (mul-one m) ∙ h ∙ mul-one n, refl)
odd_pow m n zero (suc b) o p h = absurd (even_odd m (n * 2 ^ b) o (sym (mul-one m) ∙ h ∙ ap (λ x. n * x) (doubled b) ∙ twice n (2 ^ b)))
odd_pow m n (suc a) zero o p h = absurd (even_odd n (m * 2 ^ a) p (sym (mul-one n) ∙ sym h ∙ ap (λ x. m * x) (doubled a) ∙ twice m (2 ^ a)))
odd_pow m n (suc a) (suc b) o p h =
    let e : 2 * (m * 2 ^ a) ≡ 2 * (n * 2 ^ b) = sym (ap (λ x. m * x) (doubled a) ∙ twice m (2 ^ a)) ∙ h ∙ ap (λ x. n * x) (doubled b) ∙ twice n (2 ^ b) in
    let r = odd_pow m n a b o p (omega arith) in
    (r.0, ap suc r.1)

same_odd : (m n : ℕ) (e d : ℤ) → m % 2 ≡ 1 → n % 2 ≡ 1 → m * up e * down d ≡ n * up d * down e → (m ≡ n) × (e ≡ d)
same_odd m n (pos a) (pos b) o p h =
    let r = odd_pow m n a b o p (sym (mul-one (m * 2 ^ a)) ∙ h ∙ mul-one (n * 2 ^ b)) in
    (r.0, ap pos r.1)
same_odd m n (pos a) (negsuc b) o p h =
    let r = odd_pow m n (a + suc b) 0 o p (ap (λ x. m * x) (pow-add 2 a (suc b)) ∙ sym (mul_assoc m (2 ^ a) (2 ^ suc b)) ∙ h ∙ mul-one (n * 1)) in
    let z = r.1 in
    absurd (omega arith)
same_odd m n (negsuc a) (pos b) o p h =
    let r = odd_pow m n 0 (b + suc a) o p (sym (mul-one (m * 1)) ∙ h ∙ mul_assoc n (2 ^ b) (2 ^ suc a) ∙ ap (λ x. n * x) (sym (pow-add 2 b (suc a)))) in
    let z = r.1 in
    absurd (omega arith)
same_odd m n (negsuc a) (negsuc b) o p h =
    let r = odd_pow m n (suc b) (suc a) o p (ap (λ x. x * 2 ^ suc b) (sym (mul-one m)) ∙ h ∙ ap (λ x. x * 2 ^ suc a) (mul-one n)) in
    let z : b ≡ a = omega (arith, r.1) in
    (r.0, ap negsuc (sym z))

-- ---- what a format holds

record Held (f : Format) (m : ℕ) (e : ℤ) : Type 0 where
  pub is_odd : m % 2 ≡ 1
  pub short : m < 2 ^ prec f
  pub fine : down e ≤ 2 ^ low f
  pub small : m * up e < 2 ^ suc (emax f) * down e

held : (f : Format) (s : Bool) (m : ℕ) (e : ℤ) → T (fits f (fin s (suc m) e)) → Held f (suc m) e
unfolding fits
held f s m e t =
    let a = eqb (suc m % 2) 1 in
    let b = ltb (suc m) (2 ^ prec f) in
    let c = leb (down e) (2 ^ low f) in
    let d = ltb (suc m * up e) (2 ^ suc (emax f) * down e) in
    let abc : T (a && b && c) = and_l (a && b && c) d t in
    let ab : T (a && b) = and_l (a && b) c abc in
    record {
      is_odd = eqb→eq (suc m % 2) 1 (and_l a b ab);
      short = ltb→lt (suc m) (2 ^ prec f) (and_r a b ab);
      fine = leb→le (down e) (2 ^ low f) (and_r (a && b) c abc);
      small = ltb→lt (suc m * up e) (2 ^ suc (emax f) * down e) (and_r (a && b && c) d t);
    }

-- on the format's grid: up e / down e is 2 ^ j of its smallest steps
on-grid : (l : ℕ) (e : ℤ) → down e ≤ 2 ^ l → (j : ℕ) × (up e * 2 ^ l ≡ 2 ^ j * down e)
on-grid l (pos a) h = (a + l, sym (pow-add 2 a l) ∙ sym (mul-one (2 ^ (a + l))))
on-grid l (negsuc b) h =
    let le : suc b ≤ l = ⊎_elim (λ (g : l < suc b). absurd (lt_irrefl (2 ^ l) (lt_of_lt_of_le (pow-lt g) h))) (λ (g : suc b ≤ l). g) (lt_or_le l (suc b)) in
    let z : l - suc b + suc b ≡ l = omega arith in
    (l - suc b, one-mul (2 ^ l) ∙ ap (λ x. 2 ^ x) (sym z) ∙ pow-add 2 (l - suc b) (suc b))

-- a value of that size, as the format writes it
back_from : (f : Format) (x : Float) (t : Bool) (m : ℕ) (e : ℤ) → T (fits f x) → suc m % 2 ≡ 1 → HasValue x t (suc m * up e) (down e) → x ≡ fin t (suc m) e
back_from f nan t m e F o v = absurd v
back_from f (inf u) t m e F o v = absurd v
back_from f (fin u zero d) t m e F o v =
    let z : 0 * up d * down e ≡ 0 = omega arith in
    absurd (lt_irrefl 0 (subst (λ (x : ℕ). 0 < x) (sym v.1 ∙ z) (mul-pos (mul-pos (zero-lt-suc m) (up_pos e)) (down_pos d))))
back_from f (fin u (suc n) d) t m e F o v =
    let r = same_odd (suc n) (suc m) d e (held f u n d F).is_odd o v.1 in
    λ i. fin (v.0 i) (r.0 i) (r.1 i)

-- products of such sizes
whole : (q u d l p : ℕ) → u * l ≡ p * d → q * u * l ≡ q * p * d
whole q u d l p h = mul_assoc q u l ∙ ap (λ x. q * x) h ∙ sym (mul_assoc q p d)

below : (q u d l p t k : ℕ) → 0 < l → k ≡ l * t → u * l ≡ p * d → q * u < t * d → q * p < k
below q u d l p t k pl e h s =
    let a : q * u * l ≡ q * p * d = whole q u d l p h in
    let b : q * u * l < t * d * l = mul-lt-mul_of_pos_right s pl in
    let c : t * d * l ≡ k * d = mul_right_comm t d l ∙ ap (λ x. x * d) (mul_comm t l ∙ sym e) in
    ⊎_elim (λ (g : q * p < k). g) (λ (g : k ≤ q * p). absurd (not-le_of_lt b (le_trans (le_of_eq c) (le_trans (mul-le-mul_right d g) (le_of_eq (sym a)))))) (lt_or_le (q * p) k)

-- a number that the format holds is the rounding of its own size
round_back : (f : Format) (t : Bool) (m : ℕ) (e : ℤ) → T (fits f (fin t (suc m) e)) → suc m * up e < 2 ^ suc (emax f) * down e
    → round f t (suc m * up e) (down e) ≡ fin t (suc m) e
round_back f t m e F small =
    let H = held f t m e F in
    let g = on-grid (low f) e H.fine in
    back_from f (round f t (suc m * up e) (down e)) t m e (round-fits f t (suc m * up e) (down e)) H.is_odd
    (round_exact f t (suc m * up e) (down e) (suc m) g.0 (down_pos e) H.short
    (below (suc m) (up e) (down e) (2 ^ low f) (2 ^ g.0) (2 ^ suc (emax f)) (2 ^ (low f + suc (emax f))) (pow_pos (low f)) (pow-add 2 (low f) (suc (emax f))) g.1 small)
    (whole (suc m) (up e) (down e) (2 ^ low f) (2 ^ g.0) g.1))

-- ---- twice a number, and half of that

abbrev f64 : Format
f64 = binary64

sum_same : (t : Bool) (a c : ℕ) → sum f64 t a t a c ≡ round f64 t (a + a) c
unfolding sum
sum_same true a c = refl
sum_same false a c = refl

add_same : (t : Bool) (m : ℕ) (e : ℤ) → add f64 (fin t m e) (fin t m e) ≡ round f64 t (m * up e * down e + m * up e * down e) (down e * down e)
unfolding add
add_same t m e = sum_same t (m * up e * down e) (down e * down e)

half_of : (u : Bool) (k : ℕ) (g : ℤ) → half (fin u k g) ≡ round f64 u (k * up g * 1) (1 * 2 * down g)
unfolding div of_bits
half_of true k g = refl
half_of false k g = refl

half-value : (x : Float) (t : Bool) (a c : ℕ) → 0 < c → HasValue x t (a * 2) c → half x ≡ round f64 t a c
half-value nan t a c p v = absurd v
half-value (inf u) t a c p v = absurd v
half-value (fin u k g) t a c p v =
    let e : k * up g * c ≡ a * 2 * down g = v.1 in
    let d = down_pos g in
    let w : k * up g * 1 * c ≡ a * (1 * 2 * down g) = ap (λ y. y * c) (mul-one (k * up g)) ∙ e ∙ mul_assoc a 2 (down g) in
    half_of u k g ∙ round_same f64 u (k * up g * 1) (1 * 2 * down g) a c (omega arith) p w ∙ ap (λ s. round f64 s a c) v.0

square : (a d : ℕ) → (a * d + a * d) * d ≡ a * 2 * (d * d)
square a d = omega arith

above_half : (a k d : ℕ) → a * 2 < k * d → a < k * d
above_half a k d h = omega arith

one_up : (u l p d q : ℕ) → q ≡ 2 * p → u * l ≡ p * d → u * 2 * l ≡ q * d
one_up u l p d q e h = mul_right_comm u 2 l ∙ ap (λ y. y * 2) h ∙ mul_right_comm p d 2 ∙ ap (λ y. y * d) (mul_comm p 2 ∙ sym e)

module _ (t : Bool) (m : ℕ) (e : ℤ) (F : T (fits f64 (fin t (suc m) e))) (small : suc m * up e * 2 < 2 ^ suc (emax f64) * down e) where
  abbrev a : ℕ
  a = suc m * up e

  H : Held f64 (suc m) e
  H = held f64 t m e F

  g : (j : ℕ) × (up e * 2 ^ low f64 ≡ 2 ^ j * down e)
  g = on-grid (low f64) e H.fine

  up_two : up e * 2 * 2 ^ low f64 ≡ 2 ^ suc g.0 * down e
  up_two = one_up (up e) (2 ^ low f64) (2 ^ g.0) (down e) (2 ^ suc g.0) (doubled g.0) g.1

  flat : a * 2 ≡ suc m * (up e * 2)
  flat = mul_assoc (suc m) (up e) 2

  twice-value : HasValue (round f64 t (a * 2) (down e)) t (a * 2) (down e)
  twice-value =
      round_exact f64 t (a * 2) (down e) (suc m) (suc g.0) (down_pos e) H.short
      (below (suc m) (up e * 2) (down e) (2 ^ low f64) (2 ^ suc g.0) (2 ^ suc (emax f64)) (2 ^ (low f64 + suc (emax f64))) (pow_pos (low f64)) (pow-add 2 (low f64) (suc (emax f64))) up_two (rw (sym flat) small))
      (ap (λ y. y * 2 ^ low f64) flat ∙ whole (suc m) (up e * 2) (down e) (2 ^ low f64) (2 ^ suc g.0) up_two)

  mean_fin : half (add f64 (fin t (suc m) e) (fin t (suc m) e)) ≡ fin t (suc m) e
  mean_fin =
      ap half (add_same t (suc m) e ∙ round_same f64 t (a * down e + a * down e) (down e * down e) (a * 2) (down e) (mul-pos (down_pos e) (down_pos e)) (down_pos e) (square a (down e)))
      ∙ half-value (round f64 t (a * 2) (down e)) t a (down e) (down_pos e) twice-value
      ∙ round_back f64 t m e F (above_half a (2 ^ suc (emax f64)) (down e) small)

-- ---- every number

-- x + x does not overflow: x is below 2 ^ 1023, or no finite number
abbrev pub Doubles : Float → Type 0
Doubles nan = T true
Doubles (inf s) = T true
Doubles (fin s m e) = m * up e * 2 < 2 ^ suc (emax f64) * down e

mean-zero : (t : Bool) → half (add f64 (fin t 0 (pos 0)) (fin t 0 (pos 0))) ≡ fin t 0 (pos 0)
unfolding add sum div of_bits
mean-zero true = refl
mean-zero false = refl

flat-zero : (e : ℤ) → up e * down e ≡ 1 → e ≡ pos 0
flat-zero (pos zero) h = refl
flat-zero (pos (suc k)) h = let p = pow_pos k in let d = doubled k in absurd (omega arith)
flat-zero (negsuc k) h = let p = pow_pos k in let d = doubled k in absurd (omega arith)

mean_inf : (s : Bool) → half (add f64 (inf s) (inf s)) ≡ inf s
unfolding add div of_bits
mean_inf true = refl
mean_inf false = refl

mean_nan : half (add f64 nan nan) ≡ nan
unfolding add div
mean_nan = refl

zero_exponent : (t : Bool) (e : ℤ) → T (fits f64 (fin t zero e)) → e ≡ pos 0
unfolding fits
zero_exponent t e F = flat-zero e (eqb→eq (up e * down e) 1 F)

pub mean-same : (x : Float) → T (fits f64 x) → Doubles x → half (add f64 x x) ≡ x
mean-same nan F d = mean_nan
mean-same (inf s) F d = mean_inf s
mean-same (fin t zero e) F d =
    let z = zero_exponent t e F in
    ap (λ k. half (add f64 (fin t zero k) (fin t zero k))) z ∙ mean-zero t ∙ ap (fin t zero) (sym z)
mean-same (fin t (suc m) e) F d = mean_fin t m e F d

-- ---- half of any number can be doubled

bound : (y c a d k : ℕ) → y * c ≡ a * d → a * 2 < k * c → 0 < d → y * 2 < k * d
bound y c a d k e h p =
    let l : y * 2 * c ≡ a * 2 * d = mul_right_comm y 2 c ∙ ap (λ x. x * 2) e ∙ mul_right_comm a d 2 in
    lt_of_mul-lt-mul_right c (subst (λ (x : ℕ). x < k * d * c) (sym l) (subst (λ (x : ℕ). a * 2 * d < x) (mul_right_comm k c d) (mul-lt-mul_of_pos_right h p)))

of_value : (x : Float) (t : Bool) (a c : ℕ) → HasValue x t a c → a * 2 < 2 ^ suc (emax f64) * c → Doubles x
of_value nan t a c v h = absurd v
of_value (inf u) t a c v h = absurd v
of_value (fin u m e) t a c v h = bound (m * up e) c a (down e) (2 ^ suc (emax f64)) v.1 h (down_pos e)

-- a half that the format holds
shape : (k u l p q d : ℕ) → q ≡ 2 * p → u * l ≡ q * d → k * u * 1 * l ≡ k * p * (1 * 2 * d)
shape k u l p q d e h =
    let z : k * (2 * p * d) ≡ k * p * (1 * 2 * d) = omega arith in
    ap (λ x. x * l) (mul-one (k * u)) ∙ mul_assoc k u l ∙ ap (λ x. k * x) (h ∙ ap (λ x. x * d) e) ∙ z

half-less : (k p q b : ℕ) → q ≡ 2 * p → k * q < b → k * p < b
half-less k p q b e h =
    let g : k * (2 * p) < b = subst (λ (x : ℕ). k * x < b) e h in
    omega arith

in_halves : (x k d : ℕ) → x < k * d → x * 1 * 2 < k * (1 * 2 * d)
in_halves x k d h = omega arith

-- a half of few of the smallest steps
few : (k p d : ℕ) → k < p → 0 < d → k * d < p * (1 * 2 * d)
few k p d h z =
    let a : k * d < p * d = mul-lt-mul_of_pos_right h z in
    omega arith

none : (z p : ℕ) → z ≤ p → z - p ≡ 0
none z p h = omega arith

under : (a p q r : ℕ) → a ≤ p → q ≡ 2 * p → q < r → a * 2 < r
under a p q r h e g = omega arith

at_none : (t : Bool) (n c : ℕ) → n / c < 2 ^ prec f64 → Doubles (core f64 t n c 0)
at_none t n c w =
    let q = closest n (c * 2 ^ 0) in
    let b : q * 2 ^ 0 ≤ 2 ^ prec f64 = le_trans (le_of_eq (mul-one q)) (subst (λ (u : ℕ). closest n u ≤ 2 ^ prec f64) (sym (mul-one c)) (le_trans (nearest-le (n / c) (compare (n % c * 2) c)) w)) in
    let g : prec f64 < low f64 + suc (emax f64) = lit< tt in
    let g' : suc (prec f64) < suc (emax f64) + low f64 = lit< tt in
    of_value (units f64 t q 0) t (q * 2 ^ 0) (2 ^ low f64) (units_val f64 t q 0 (lt_of_le_of_lt b (pow-lt g)))
    (under (q * 2 ^ 0) (2 ^ prec f64) (2 ^ suc (prec f64)) (2 ^ suc (emax f64) * 2 ^ low f64) b (doubled (prec f64))
    (subst (λ (x : ℕ). 2 ^ suc (prec f64) < x) (pow-add 2 (suc (emax f64)) (low f64)) (pow-lt g')))

tiny : (t : Bool) (n c : ℕ) → 0 < c → n < 2 ^ prec f64 * c → Doubles (core f64 t n c (size (n / c) - prec f64))
tiny t n c p h =
    let w : n / c < 2 ^ prec f64 = (div-lt_iff_lt-mul p).1 h in
    subst (λ (k : ℕ). Doubles (core f64 t n c k)) (sym (none (size (n / c)) (prec f64) (size-le (n / c) (prec f64) w))) (at_none t n c w)

module _ (t : Bool) (k : ℕ) (g : ℤ) (short : k < 2 ^ prec f64) (fine : down g ≤ 2 ^ low f64) (small : k * up g < 2 ^ suc (emax f64) * down g) where
  abbrev num : ℕ
  num = k * up g * 1

  abbrev den : ℕ
  den = 1 * 2 * down g

  den_pos : 0 < den
  den_pos = let d = down_pos g in omega arith

  rounded : (j : ℕ) → up g * 2 ^ low f64 ≡ 2 ^ j * down g → Doubles (round f64 t num den)
  rounded zero e =
      let n : num * 2 ^ low f64 ≡ k * down g = ap (λ x. x * 2 ^ low f64) (mul-one (k * up g)) ∙ mul_assoc k (up g) (2 ^ low f64) ∙ ap (λ x. k * x) (e ∙ one-mul (down g)) in
      subst (λ (x : Float). Doubles x) (sym (round_is f64 t num den))
      (tiny t (num * 2 ^ low f64) den den_pos (subst (λ (x : ℕ). x < 2 ^ prec f64 * den) (sym n) (few k (2 ^ prec f64) (down g) short (down_pos g))))
  rounded (suc i) e =
      of_value (round f64 t num den) t num den
      (round_exact f64 t num den k i den_pos short
      (half-less k (2 ^ i) (2 ^ suc i) (2 ^ (low f64 + suc (emax f64))) (doubled i)
      (below k (up g) (down g) (2 ^ low f64) (2 ^ suc i) (2 ^ suc (emax f64)) (2 ^ (low f64 + suc (emax f64))) (pow_pos (low f64)) (pow-add 2 (low f64) (suc (emax f64))) e small))
      (shape k (up g) (2 ^ low f64) (2 ^ i) (2 ^ suc i) (down g) (doubled i) e))
      (in_halves (k * up g) (2 ^ suc (emax f64)) (down g) small)

  halved : Doubles (half (fin t k g))
  halved =
      let j = on-grid (low f64) g fine in
      subst (λ (x : Float). Doubles x) (sym (half_of t k g)) (rounded j.0 j.1)

half_nan : half nan ≡ nan
unfolding div
half_nan = refl

half_inf : (s : Bool) → half (inf s) ≡ inf s
unfolding div of_bits
half_inf true = refl
half_inf false = refl

pub half-doubles : (x : Float) → T (fits f64 x) → Doubles (half x)
half-doubles nan F = subst (λ (x : Float). Doubles x) (sym half_nan) tt
half-doubles (inf s) F = subst (λ (x : Float). Doubles x) (sym (half_inf s)) tt
half-doubles (fin t zero e) F =
    subst (λ (d : ℤ). Doubles (half (fin t zero d))) (sym (zero_exponent t e F))
    (halved t 0 (pos 0) (pow_pos (prec f64)) (pow_pos (low f64)) (mul-pos (pow_pos (suc (emax f64))) (down_pos (pos 0))))
half-doubles (fin t (suc m) e) F =
    let H = held f64 t m e F in
    halved t (suc m) e H.short H.fine H.small
