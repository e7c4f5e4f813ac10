-- Floats as a report compares them: NaN, zeros, and numbers that are not negative; the absolute value as it is worked out. Assumes nothing.
use Rattle.std.specs.Prelude.{◌≡◌, refl, Bool, true, false, not, ◌&&◌, ℕ, zero, suc, ◌+◌, ◌*◌, ◌^◌, ◌<◌, ◌≤◌, ℤ, pos, negsuc, T, eqb, ltb, Float}
use Rattle.std.proofs.Common.{sym, ap, ◌∙◌, true≢false, add_comm, mul-pos, zero-lt-suc, mul-lt-mul_of_pos_right, mul-le-mul_right, lt_of_mul-lt-mul_right, arith, eqb→eq, pow_pos, lt-ltb, le-ltb, ltb-true, ltb-false, eq-eqb, ne_eqb, eqb-true}
use Rattle.std.proofs.lemmas.Bool.{false≢true, not-true}
use Rattle.std.proofs.Math.Nat.{two-pow-succ}
use Rattle.std.proofs.Math.Dec.{eqb-suc-zero}
use Rattle.std.specs.Float.{nan, inf, fin, binary64}
use Rattle.std.specs.Float.Ieee.{neg, lt, eq, ne, fits, is_nan, of_bits, up, down}
use Rattle.std.specs.Float.Ieee.Fits.{up_pos, down_pos}
use Rattle.lists.specs.Tests.{and_fst, and_snd}
use Rattle.lists.specs.Floats.{plus_zero}
use Rattle.reports.specs.Report.{absolute, is_zero}

-- only NaN differs from itself
pub differs : (x : Float) → ne x x ≡ is_nan x
unfolding ne eq is_nan
differs nan = refl
differs (inf true) = refl
differs (inf false) = refl
differs (fin true m e) = rw (eq-eqb (m * up e * down e) (m * up e * down e) refl) refl
differs (fin false m e) = rw (eq-eqb (m * up e * down e) (m * up e * down e) refl) refl

-- nothing is below NaN
pub below_nan : (w x : Float) → is_nan x ≡ true → lt w (absolute x) ≡ false
unfolding is_nan absolute lt
below_nan nan nan h = refl
below_nan (inf s) nan h = refl
below_nan (fin s m e) nan h = refl
below_nan w (inf t) h = absurd (false≢true h)
below_nan w (fin t n d) h = absurd (false≢true h)

-- a number that is not negative, by its sign
unfoldable pub not_negative : Float → Bool
not_negative nan = false
not_negative (inf s) = not s
not_negative (fin s m e) = not s

pub plus-absolute : (x : Float) → is_nan x ≡ false → not_negative (absolute x) ≡ true
unfolding not_negative absolute is_nan
plus-absolute nan h = absurd (true≢false h)
plus-absolute (inf s) h = refl
plus-absolute (fin s m e) h = refl

pub zero-absolute : (x : Float) → is_zero (absolute x) ≡ is_zero x
unfolding is_zero absolute
zero-absolute nan = refl
zero-absolute (inf s) = refl
zero-absolute (fin s m e) = refl

-- a product of a number above 0 with powers of 2
scaled_pos : (m : ℕ) (e d : ℤ) → 0 < suc m * up e * down d
scaled_pos m e d = mul-pos (mul-pos (zero-lt-suc m) (up_pos e)) (down_pos d)

scaled-zero : (e d : ℤ) → 0 * up e * down d ≡ 0
scaled-zero e d = omega arith

-- what is above a number that is not negative is not zero
pub above_plus : (w a : Float) → not_negative w ≡ true → not_negative a ≡ true → lt w a ≡ true → is_zero a ≡ false
unfolding not_negative lt is_zero
above_plus nan a p q h = absurd (false≢true p)
above_plus (inf true) a p q h = absurd (false≢true p)
above_plus (inf false) nan p q h = absurd (false≢true h)
above_plus (inf false) (inf t) p q h = absurd (false≢true h)
above_plus (inf false) (fin t n d) p q h = absurd (false≢true h)
above_plus (fin true m e) a p q h = absurd (false≢true p)
above_plus (fin false m e) nan p q h = absurd (false≢true q)
above_plus (fin false m e) (inf t) p q h = refl
above_plus (fin false m e) (fin true n d) p q h = absurd (false≢true q)
above_plus (fin false m e) (fin false zero d) p q h =
    let g = ltb-true (m * up e * down d) (0 * up d * down e) h in let z = scaled-zero d e in absurd (omega arith)
above_plus (fin false m e) (fin false (suc n) d) p q h = eqb-suc-zero n

-- what is not above zero, and not negative, is zero
pub not_above_zero : (w a : Float) → not_negative a ≡ true → is_zero w ≡ true → not_negative w ≡ true → lt w a ≡ false → is_zero a ≡ true
unfolding not_negative lt is_zero
not_above_zero nan a q z p h = absurd (false≢true p)
not_above_zero (inf s) a q z p h = absurd (false≢true z)
not_above_zero (fin true m e) a q z p h = absurd (false≢true p)
not_above_zero (fin false m e) nan q z p h = absurd (false≢true q)
not_above_zero (fin false m e) (inf true) q z p h = absurd (false≢true q)
not_above_zero (fin false m e) (inf false) q z p h = absurd (true≢false h)
not_above_zero (fin false m e) (fin true n d) q z p h = absurd (false≢true q)
not_above_zero (fin false m e) (fin false zero d) q z p h = eq-eqb 0 0 refl
not_above_zero (fin false m e) (fin false (suc n) d) q z p h =
    let i : m ≡ 0 = eqb-true m 0 z in
    let u : m * up e * down d ≡ 0 = ap (λ k. k * up e * down d) i ∙ scaled-zero e d in
    let g = ltb-false (m * up e * down d) (suc n * up d * down e) h in
    let k = scaled_pos n d e in
    absurd (omega arith)

-- x is a number, and neither above w nor below -w
abbrev pub AtMost : Float → Float → Type 0
AtMost w x = (lt w x ≡ false) × (lt x (neg w) ≡ false) × (ne x x ≡ false)

-- the same as a test
abbrev pub at_most : Float → Float → Bool
at_most w x = not (lt w x) && (not (lt x (neg w)) && eq x x)

pub at-most_says : (w x : Float) → at_most w x ≡ true → AtMost w x
unfolding ne
at-most_says w x e =
    let r = and_snd (not (lt w x)) (not (lt x (neg w)) && eq x x) e in
    (not-true (lt w x) (and_fst (not (lt w x)) (not (lt x (neg w)) && eq x x) e), not-true (lt x (neg w)) (and_fst (not (lt x (neg w))) (eq x x) r), ap not (and_snd (not (lt x (neg w))) (eq x x) r))

-- then its absolute value is not above w
pub within-absolute : (w x : Float) → AtMost w x → lt w (absolute x) ≡ false
unfolding lt absolute neg ne eq
within-absolute w nan h = absurd (true≢false h.2)
within-absolute w (inf false) h = h.0
within-absolute nan (inf true) h = refl
within-absolute (inf true) (inf true) h = absurd (true≢false h.1)
within-absolute (inf false) (inf true) h = refl
within-absolute (fin s n d) (inf true) h = absurd (true≢false h.1)
within-absolute w (fin false m e) h = h.0
within-absolute nan (fin true m e) h = refl
within-absolute (inf true) (fin true m e) h = absurd (true≢false h.1)
within-absolute (inf false) (fin true m e) h = refl
within-absolute (fin false n d) (fin true m e) h = h.1
within-absolute (fin true n d) (fin true m e) h = ap (λ k. ltb 0 k) (add_comm (n * up d * down e) (m * up e * down d)) ∙ h.1

-- of three fractions: W / C below M / E, and M / E not above N / D
through : (W M N C E D : ℕ) → 0 < E → 0 < D → W * E < M * C → M * D ≤ N * E → W * D < N * C
through W M N C E D hE hD h k =
    let a : W * E * D < M * C * D = mul-lt-mul_of_pos_right h hD in
    let b : M * D * C ≤ N * E * C = mul-le-mul_right C k in
    lt_of_mul-lt-mul_right E (omega arith)

-- what is above a number that is above w is above w, for numbers that are not negative
pub above_above : (w a b : Float) → not_negative w ≡ true → not_negative a ≡ true → not_negative b ≡ true → lt w a ≡ true → lt a b ≡ true → lt w b ≡ true
unfolding not_negative lt
above_above nan a b p q r h k = absurd (false≢true p)
above_above (inf true) a b p q r h k = absurd (false≢true p)
above_above (inf false) nan b p q r h k = absurd (false≢true h)
above_above (inf false) (inf t) b p q r h k = absurd (false≢true h)
above_above (inf false) (fin t n d) b p q r h k = absurd (false≢true h)
above_above (fin true m e) a b p q r h k = absurd (false≢true p)
above_above (fin false m e) nan b p q r h k = absurd (false≢true q)
above_above (fin false m e) (inf true) b p q r h k = absurd (false≢true q)
above_above (fin false m e) (inf false) nan p q r h k = absurd (false≢true k)
above_above (fin false m e) (inf false) (inf t) p q r h k = absurd (false≢true k)
above_above (fin false m e) (inf false) (fin t n d) p q r h k = absurd (false≢true k)
above_above (fin false m e) (fin true i c) b p q r h k = absurd (false≢true q)
above_above (fin false m e) (fin false i c) nan p q r h k = absurd (false≢true r)
above_above (fin false m e) (fin false i c) (inf true) p q r h k = absurd (false≢true r)
above_above (fin false m e) (fin false i c) (inf false) p q r h k = refl
above_above (fin false m e) (fin false i c) (fin true n d) p q r h k = absurd (false≢true r)
above_above (fin false m e) (fin false i c) (fin false n d) p q r h k =
    let g = ltb-true (m * up e * down c) (i * up c * down e) h in
    let l = ltb-true (i * up c * down d) (n * up d * down c) k in
    lt-ltb (m * up e * down d) (n * up d * down e) (through (m * up e) (i * up c) (n * up d) (down e) (down c) (down d) (down_pos c) (down_pos d) g (omega arith))

-- and so is what equals it
pub above_equal : (w a b : Float) → not_negative w ≡ true → not_negative a ≡ true → not_negative b ≡ true → lt w a ≡ true → eq b a ≡ true → lt w b ≡ true
unfolding not_negative lt eq
above_equal nan a b p q r h k = absurd (false≢true p)
above_equal (inf true) a b p q r h k = absurd (false≢true p)
above_equal (inf false) nan b p q r h k = absurd (false≢true h)
above_equal (inf false) (inf t) b p q r h k = absurd (false≢true h)
above_equal (inf false) (fin t n d) b p q r h k = absurd (false≢true h)
above_equal (fin true m e) a b p q r h k = absurd (false≢true p)
above_equal (fin false m e) a nan p q r h k = absurd (false≢true r)
above_equal (fin false m e) a (inf true) p q r h k = absurd (false≢true r)
above_equal (fin false m e) a (inf false) p q r h k = refl
above_equal (fin false m e) a (fin true n d) p q r h k = absurd (false≢true r)
above_equal (fin false m e) nan (fin false n d) p q r h k = absurd (false≢true q)
above_equal (fin false m e) (inf t) (fin false n d) p q r h k = absurd (false≢true k)
above_equal (fin false m e) (fin true i c) (fin false n d) p q r h k = absurd (false≢true q)
above_equal (fin false m e) (fin false i c) (fin false n d) p q r h k =
    let g = ltb-true (m * up e * down c) (i * up c * down e) h in
    let l = eqb-true (n * up d * down c) (i * up c * down d) (and_fst (eqb (n * up d * down c) (i * up c * down d)) true k) in
    lt-ltb (m * up e * down d) (n * up d * down e) (through (m * up e) (i * up c) (n * up d) (down e) (down c) (down d) (down_pos c) (down_pos d) g (omega arith))

-- no number is below itself
pub below-itself : (x : Float) → lt x x ≡ true → ⊥
unfolding lt
below-itself nan h = false≢true h
below-itself (inf true) h = false≢true h
below-itself (inf false) h = false≢true h
below-itself (fin true m e) h = let g = ltb-true (m * up e * down e) (m * up e * down e) h in omega arith
below-itself (fin false m e) h = let g = ltb-true (m * up e * down e) (m * up e * down e) h in omega arith

-- a number equals itself
pub equals_itself : (x : Float) → is_nan x ≡ false → eq (absolute x) (absolute x) ≡ true
unfolding is_nan absolute eq
equals_itself nan h = absurd (true≢false h)
equals_itself (inf s) h = refl
equals_itself (fin s m e) h = rw (eq-eqb (m * up e * down e) (m * up e * down e) refl) refl

-- NaN equals nothing
pub nan_equals : (x a : Float) → is_nan x ≡ true → eq (absolute x) a ≡ false
unfolding is_nan absolute eq
nan_equals nan a h = refl
nan_equals (inf s) a h = absurd (false≢true h)
nan_equals (fin s m e) a h = absurd (false≢true h)

-- equal to 0.0, and below it
equal_zero : (s : Bool) (m : ℕ) (e : ℤ) → eq (fin s m e) plus_zero ≡ eqb m 0
unfolding eq of_bits
equal_zero true zero e =
    let a = scaled-zero e (pos 0) in
    let b = scaled-zero (pos 0) e in
    rw (eq-eqb (0 * up e * down (pos 0)) (0 * up (pos 0) * down e) (a ∙ sym b), eq-eqb (0 * up e * down (pos 0)) 0 a, eq-eqb 0 0 refl) refl
equal_zero false zero e =
    let a = scaled-zero e (pos 0) in
    let b = scaled-zero (pos 0) e in
    rw (eq-eqb (0 * up e * down (pos 0)) (0 * up (pos 0) * down e) (a ∙ sym b), eq-eqb 0 0 refl) refl
equal_zero s (suc m) e =
    let a = scaled_pos m e (pos 0) in
    let b = scaled-zero (pos 0) e in
    rw (ne_eqb (suc m * up e * down (pos 0)) (0 * up (pos 0) * down e) (λ i. omega arith), eqb-suc-zero m) refl

less_zero : (s : Bool) (m : ℕ) (e : ℤ) → lt (fin s m e) plus_zero ≡ (s && not (eqb m 0))
unfolding lt of_bits
less_zero true zero e =
    let a = scaled-zero e (pos 0) in
    let b = scaled-zero (pos 0) e in
    le-ltb 0 (0 * up e * down (pos 0) + 0 * up (pos 0) * down e) (omega arith)
less_zero true (suc m) e =
    let a = scaled_pos m e (pos 0) in
    rw (lt-ltb 0 (suc m * up e * down (pos 0) + 0 * up (pos 0) * down e) (omega arith), eqb-suc-zero m) refl
less_zero false m e = let b = scaled-zero (pos 0) e in rw (le-ltb (m * up e * down (pos 0)) (0 * up (pos 0) * down e) (omega arith)) refl

pub equals_zero : (w : Float) → eq w plus_zero ≡ is_zero w
unfolding is_zero eq of_bits
equals_zero nan = refl
equals_zero (inf s) = refl
equals_zero (fin s m e) = equal_zero s m e

-- ---- the absolute value as it is worked out

two-pow : (k : ℕ) → 2 ≤ 2 ^ suc k
two-pow k = let e = two-pow-succ k in let h = pow_pos k in omega arith

-- a zero is written in one way
zero_is : (e : ℤ) → T (eqb (up e * down e) 1) → plus_zero ≡ fin false 0 e
unfolding of_bits
zero_is (pos zero) h = refl
zero_is (pos (suc k)) h = let g = eqb→eq (2 ^ suc k * 1) 1 h in let i = two-pow k in absurd (omega arith)
zero_is (negsuc k) h = let g = eqb→eq (1 * 2 ^ suc k) 1 h in let i = two-pow k in absurd (omega arith)

pub magnitude_less : (x : Float) → lt x plus_zero ≡ true → neg x ≡ absolute x
unfolding neg absolute lt of_bits
magnitude_less nan h = refl
magnitude_less (inf true) h = refl
magnitude_less (inf false) h = absurd (false≢true h)
magnitude_less (fin true m e) h = refl
magnitude_less (fin false m e) h = absurd (false≢true (sym (less_zero false m e) ∙ h))

pub magnitude_zero : (x : Float) → T (fits binary64 x) → eq x plus_zero ≡ true → plus_zero ≡ absolute x
unfolding absolute eq fits of_bits
magnitude_zero nan f h = absurd (false≢true h)
magnitude_zero (inf s) f h = absurd (false≢true h)
magnitude_zero (fin s zero e) f h = zero_is e f
magnitude_zero (fin s (suc m) e) f h = absurd (false≢true (sym (eqb-suc-zero m) ∙ sym (equal_zero s (suc m) e) ∙ h))

not_false_and : (b : Bool) → (true && not b) ≡ false → b ≡ false → ⊥
not_false_and true h g = true≢false g
not_false_and false h g = true≢false h

pub magnitude_more : (x : Float) → lt x plus_zero ≡ false → eq x plus_zero ≡ false → x ≡ absolute x
unfolding absolute lt of_bits
magnitude_more nan h g = refl
magnitude_more (inf true) h g = absurd (true≢false h)
magnitude_more (inf false) h g = refl
magnitude_more (fin true m e) h g = absurd (not_false_and (eqb m 0) (sym (less_zero true m e) ∙ h) (sym (equal_zero true m e) ∙ g))
magnitude_more (fin false m e) h g = refl
