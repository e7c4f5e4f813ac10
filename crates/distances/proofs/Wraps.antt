-- Taking the nearest whole number off a difference by adding and taking away 1.5 · 2 ^ 52. What that takes off is a whole number wherever the sum is 2 ^ 52 or
-- more; if then less than a half is left, it was the nearest one, and the result is the difference less its own rounding, bit for bit. Assumes nothing.
use mathlib.Core.Path.{◌≡◌, refl, sym, ap, ◌∙◌, subst}
use mathlib.Core.Bool.{Bool, true, false, not, cond, false≢true}
use mathlib.Core.Logic.{◌⊎◌, inl, inr}
use Prim.Native.Nat.{ℕ, zero, suc, ◌+◌, ◌-◌, ◌*◌, ◌/◌, ◌^◌, ◌≤◌, ◌<◌}
use native.Mathlib.Nat.{le_antisymm, lt_of_not-le, zero-lt-suc, zero-mul, mul-one, mul_right_comm, mul-pos, le_of_mul-le-mul_right, lt_of_mul-lt-mul_right, eq_of_mul-eq-mul_right, le-div_iff_mul-le, div-lt_iff_lt-mul, pow-suc}
use native.Mathlib.Omega.{arith}
use lib.IntN.{ℤ, pos, negsuc}
use lib.Dec.{T, ltb}
use lib.Pow.{pow_pos}
use lib.Ieee.{Float, nan, inf, fin, Format, binary64, prec, emax, low, up, down, odd, units, round, neg, sum, add, sub, fits, lt, of_bits}
use lib.Ieee.Fits.{down_pos, round-fits, round_is, sub-fits, add-fits}
use lib.Ieee.Exact.{HasValue}
use lib.Ieee.Back.{round_whole, whole_unique}
use lib.Ieee.Scale.{round_same}
use borrow.Author.Tests.{ltb-true, ltb-false, le-ltb}
use Rattle.lists.specs.Cases.{lt_or_le}
use Rattle.lists.specs.Tests.{not-both}
use Rattle.common.specs.Whole.{half_up, nearest_whole}
use Rattle.distances.specs.Reach.{is_positive}
use Rattle.distances.proofs.Rounded.{digits-fit, own_round, round_plus, number, round_number, rounds_above}

-- ---- from 2 ^ 52 on a float is a whole number

finer : (p k : ℕ) → 0 < p → 2 ^ 52 * (p * 2) ≤ k * 1 → k < 2 ^ 53 → ⊥
finer p k P h l = omega arith

big : (k : ℕ) (g : ℤ) → T (fits binary64 (fin false k g)) → 2 ^ 52 * down g ≤ k * up g → (j : ℕ) × (g ≡ pos j)
big k (pos j) t h = (j, refl)
big zero (negsuc j) t h = absurd (finer (2 ^ j) 0 (pow_pos j) (subst (λ (z : ℕ). 2 ^ 52 * z ≤ 0 * 1) (pow-suc 2 j) h) (pow_pos 53))
big (suc k) (negsuc j) t h = absurd (finer (2 ^ j) (suc k) (pow_pos j) (subst (λ (z : ℕ). 2 ^ 52 * z ≤ suc k * 1) (pow-suc 2 j) h) (digits-fit binary64 false k (negsuc j) t))

-- x is the whole number r with the sign s
abbrev Whole : Float → Bool → ℕ → Type 0
Whole x s r = HasValue x s r 1

at_most : (x : Float) → T (is_positive x) → T (number x) → T (fits binary64 x) → lt x (fin false 1 (pos 53)) ≡ false → (x ≡ inf false) ⊎ ((r : ℕ) × (0 < r) × Whole x false r)
unfolding lt
at_most nan p q t h = absurd q
at_most (inf true) p q t h = absurd p
at_most (inf false) p q t h = inl refl
at_most (fin true k g) p q t h = absurd p
at_most (fin false k g) p q t h = inr (go (big k g t least))
  where
    over : 1 * 2 ^ 53 * down g ≤ k * up g * 1
    over = ltb-false (k * up g * 1) (1 * 2 ^ 53 * down g) h

    smaller : (d v : ℕ) → 1 * 2 ^ 53 * d ≤ v * 1 → 2 ^ 52 * d ≤ v
    smaller d v h = omega arith

    least : 2 ^ 52 * down g ≤ k * up g
    least = smaller (down g) (k * up g) over

    positive : (d v : ℕ) → 0 < d → 2 ^ 52 * d ≤ v → 0 < v
    positive d v D h = omega arith

    go : (j : ℕ) × (g ≡ pos j) → (r : ℕ) × (0 < r) × Whole (fin false k g) false r
    go (j, e) = (k * up g, positive (down g) (k * up g) (down_pos g) least, (refl, subst (λ (z : ℤ). k * up z * 1 ≡ k * up z * down z) (sym e) refl))

-- a whole number rounds to a whole number, which is not 0 unless it is
whole_round : (n : ℕ) → 0 < n → (round binary64 false n 1 ≡ inf false) ⊎ ((r : ℕ) × (0 < r) × Whole (round binary64 false n 1) false r)
whole_round n h = go (lt_or_le (2 ^ 53) n)
  where
    lift : (n : ℕ) → 2 ^ 53 < n → 1 * 2 ^ 53 * 1 ≤ n * 1
    lift n l = omega arith

    go : (2 ^ 53 < n) ⊎ (n ≤ 2 ^ 53) → (round binary64 false n 1 ≡ inf false) ⊎ ((r : ℕ) × (0 < r) × Whole (round binary64 false n 1) false r)
    go (inl l) = at_most (round binary64 false n 1) (round_plus binary64 n 1) (round_number binary64 false n 1) (round-fits binary64 false n 1) (rounds_above binary64 (fin false 1 (pos 53)) n 1 tt (unfold fits in tt) (zero-lt-suc 0) (lift n l))
    go (inr l) = inr (n, h, round_whole binary64 false n l)

-- ---- signs

neg_units : (f : Format) (s : Bool) (q k : ℕ) → neg (units f s q k) ≡ units f (not s) q k
unfolding units odd neg
neg_units f s q k = go (ltb (q * 2 ^ k) (2 ^ (low f + suc (emax f)))) q
  where
    go : (b : Bool) (q : ℕ) → neg (cond b (odd (suc (prec f)) s q k (low f)) (inf s)) ≡ cond b (odd (suc (prec f)) (not s) q k (low f)) (inf (not s))
    go true zero = refl
    go true (suc q) = refl
    go false q = refl

neg_round : (f : Format) (s : Bool) (a c : ℕ) → neg (round f s a c) ≡ round f (not s) a c
neg_round f s a c = ap neg (round_is f s a c) ∙ neg_units f s _ _ ∙ sym (round_is f (not s) a c)

neg_whole : (x : Float) (s : Bool) (r : ℕ) → Whole x s r → Whole (neg x) (not s) r
unfolding neg
neg_whole nan s r v = absurd v
neg_whole (inf t) s r v = absurd v
neg_whole (fin t m e) s r v = (ap not v.0, v.1)

-- ---- less than a half is left

half : Float
half = fin false 1 (negsuc 0)

minus-half : Float
minus-half = fin true 1 (negsuc 0)

mirrored : (y : Float) → T (is_positive y) → lt minus-half (neg y) ≡ true → lt y half ≡ true
unfolding lt neg half minus-half
mirrored nan p h = absurd (false≢true h)
mirrored (inf true) p h = absurd p
mirrored (inf false) p h = absurd (false≢true h)
mirrored (fin true n d) p h = absurd p
mirrored (fin false n d) p h = h

under-half : (a c : ℕ) → 0 < c → lt (round binary64 false a c) half ≡ true → a * 2 < c
unfolding half
under-half a c C h = lt_of_not-le (λ (g : c ≤ a * 2). not-both h (rounds_above binary64 (fin false 1 (negsuc 0)) a c tt (unfold fits in tt) C (first c (a * 2) g)))
  where
    first : (c b : ℕ) → c ≤ b → 1 * 1 * c ≤ b
    first c b g = omega arith

small : (s : Bool) (a c : ℕ) → 0 < c → lt minus-half (round binary64 s a c) ≡ true → lt (round binary64 s a c) half ≡ true → a * 2 < c
small false a c C l h = under-half a c C h
small true a c C l h = under-half a c C (mirrored (round binary64 false a c) (round_plus binary64 a c) (subst (λ (y : Float). lt minus-half y ≡ true) (sym (neg_round binary64 false a c)) l))

-- the nearest whole number of a / c is r
half_up_is : (a c r : ℕ) → 0 < c → r * (2 * c) ≤ 2 * a + c → 2 * a + c < (r + 1) * (2 * c) → half_up a c ≡ r
unfolding half_up
half_up_is a c r C lo hi =
    let D : 0 < 2 * c = omega arith in
    let below : (2 * a + c) / (2 * c) < r + 1 = (div-lt_iff_lt-mul D).1 hi in
    le_antisymm (at-or-below ((2 * a + c) / (2 * c)) r below) ((le-div_iff_mul-le D).1 lo)
  where
    at-or-below : (q r : ℕ) → q < r + 1 → q ≤ r
    at-or-below q r h = omega arith

-- ---- a difference d = ± a / c and a whole number t = ± r

-- a whole float is the rounding of its number
rescale : (x : Float) (s : Bool) (a c r : ℕ) → 0 < c → a ≡ r * c → HasValue x s a c → Whole x s r
rescale nan s a c r C e v = absurd v
rescale (inf t) s a c r C e v = absurd v
rescale (fin t m g) s a c r C e v =
    (v.0, eq_of_mul-eq-mul_right c C (m * up g * 1) (r * down g) (ap (λ (z : ℕ). z * c) (mul-one (m * up g)) ∙ v.1 ∙ ap (λ (z : ℕ). z * down g) e ∙ mul_right_comm r c (down g)))

own-whole : (s : Bool) (n : ℕ) (h : ℤ) (r : ℕ) → T (fits binary64 (fin s n h)) → n * up h * 1 ≡ r * down h → round binary64 s r 1 ≡ fin s n h
own-whole s n h r t v =
    let e : n * up h ≡ r * down h = sym (mul-one (n * up h)) ∙ v in
    let y = round binary64 s (n * up h) (down h) in
    round_same binary64 s r 1 (n * up h) (down h) (zero-lt-suc 0) (down_pos h) (sym v)
    ∙ whole_unique binary64 y (fin s n h) s r (round-fits binary64 s (n * up h) (down h)) t (rescale y s (n * up h) (down h) r (down_pos h) e (own_round binary64 s n h t)) (refl, v)

whole-near : (s : Bool) (m : ℕ) (e : ℤ) (r : ℕ) → half_up (m * up e) (down e) ≡ r → neg (nearest_whole (fin s m e)) ≡ round binary64 (not s) r 1
unfolding nearest_whole
whole-near s m e r q = neg_round binary64 s (half_up (m * up e) (down e)) 1 ∙ ap (λ (z : ℕ). round binary64 (not s) z 1) q

-- a / c and r over the common denominator c d: A and B
module _ (a c r d A B : ℕ) (C : 0 < c) (D : 0 < d) (α : A ≡ a * d) (β : B ≡ r * d * c) where
  r_above : A < B → (B - A) * 2 < c * d → half_up a c ≡ r
  r_above l h =
      let lo : r * (2 * c) * d ≤ (2 * a + c) * d = omega arith in
      let hi : (2 * a + c) * d < (r + 1) * (2 * c) * d = omega (arith, mul-pos C D) in
      half_up_is a c r C (le_of_mul-le-mul_right lo D) (lt_of_mul-lt-mul_right d hi)

  r-below : B ≤ A → (A - B) * 2 < c * d → half_up a c ≡ r
  r-below l h =
      let lo : r * (2 * c) * d ≤ (2 * a + c) * d = omega arith in
      let hi : (2 * a + c) * d < (r + 1) * (2 * c) * d = omega arith in
      half_up_is a c r C (le_of_mul-le-mul_right lo D) (lt_of_mul-lt-mul_right d hi)

  -- the sum is below a half: r is 0, and so is the nearest whole number
  r-zero : (A + B) * 2 < c * d → r ≡ 0
  r-zero h = go r β
    where
      go : (r : ℕ) → B ≡ r * d * c → r ≡ 0
      go zero b = refl
      go (suc k) b = absurd (omega (arith, mul-pos C D))

  none : (A + B) * 2 < c * d → half_up a c ≡ 0
  none h =
      let hi : (2 * a + c) * d < (0 + 1) * (2 * c) * d = omega arith in
      half_up_is a c 0 C (omega arith) (lt_of_mul-lt-mul_right d hi)

-- adding +0 or -0 to what is not -0
plus-zero : (m : ℕ) (e : ℤ) → add binary64 (fin false m e) (fin false zero (pos 0)) ≡ add binary64 (fin false m e) (fin true zero (pos 0))
unfolding add sum
plus-zero m e = go (m * up e * 1) (zero * 1 * down e) (down e * 1) (zero-mul (down e))
  where
    go : (a b c : ℕ) → b ≡ 0 → round binary64 false (a + b) c ≡ cond (ltb a b) (round binary64 true (b - a) c) (round binary64 false (a - b) c)
    go a b c z =
        let n : ltb a b ≡ false = le-ltb a b (omega arith) in
        let q : a + b ≡ a - b = omega arith in
        rw (n, q)

-- with the whole number's sign turned
by_neg : (s : Bool) (m : ℕ) (e : ℤ) (t : Float) (r : ℕ) → half_up (m * up e) (down e) ≡ r → round binary64 (not s) r 1 ≡ t → add binary64 (fin s m e) t ≡ sub binary64 (fin s m e) (nearest_whole (fin s m e))
unfolding sub
by_neg s m e t r q w = ap (λ (y : Float). add binary64 (fin s m e) y) (sym (whole-near s m e r q ∙ w))

zero_is : (s : Bool) → round binary64 s 0 1 ≡ fin s zero (pos 0)
unfolding round
zero_is s = refl

-- the sum of two numbers of opposite sign, told from its being small
opposite : (s : Bool) (a b c : ℕ) → 0 < c → lt minus-half (sum binary64 s a (not s) b c) ≡ true → lt (sum binary64 s a (not s) b c) half ≡ true
    → ((a < b) × ((b - a) * 2 < c)) ⊎ ((b ≤ a) × ((a - b) * 2 < c))
unfolding sum
opposite true a b c C lo hi = go (ltb a b) (ltb-true a b) (ltb-false a b) lo hi
  where
    go : (w : Bool) → (w ≡ true → a < b) → (w ≡ false → b ≤ a) → lt minus-half (cond w (round binary64 false (b - a) c) (round binary64 (ltb b a) (a - b) c)) ≡ true
        → lt (cond w (round binary64 false (b - a) c) (round binary64 (ltb b a) (a - b) c)) half ≡ true → ((a < b) × ((b - a) * 2 < c)) ⊎ ((b ≤ a) × ((a - b) * 2 < c))
    go true l g lo hi = inl (l refl, small false (b - a) c C lo hi)
    go false l g lo hi = inr (g refl, small (ltb b a) (a - b) c C lo hi)
opposite false a b c C lo hi = go (ltb a b) (ltb-true a b) (ltb-false a b) lo hi
  where
    go : (w : Bool) → (w ≡ true → a < b) → (w ≡ false → b ≤ a) → lt minus-half (cond w (round binary64 true (b - a) c) (round binary64 false (a - b) c)) ≡ true
        → lt (cond w (round binary64 true (b - a) c) (round binary64 false (a - b) c)) half ≡ true → ((a < b) × ((b - a) * 2 < c)) ⊎ ((b ≤ a) × ((a - b) * 2 < c))
    go true l g lo hi = inl (l refl, small true (b - a) c C lo hi)
    go false l g lo hi = inr (g refl, small false (a - b) c C lo hi)

module _ (m : ℕ) (e : ℤ) (n : ℕ) (h : ℤ) (r : ℕ) (v : n * up h * 1 ≡ r * down h) where
  over : n * up h * down e ≡ r * down h * down e
  over = ap (λ (z : ℕ). z * down e) (sym (mul-one (n * up h)) ∙ v)

  apart : (((m * up e * down h) < (n * up h * down e)) × ((n * up h * down e - m * up e * down h) * 2 < down e * down h)) ⊎ (((n * up h * down e) ≤ (m * up e * down h)) × ((m * up e * down h - n * up h * down e) * 2 < down e * down h))
      → half_up (m * up e) (down e) ≡ r
  apart (inl (l, k)) = r_above (m * up e) (down e) r (down h) (m * up e * down h) (n * up h * down e) (down_pos e) (down_pos h) refl over l k
  apart (inr (l, k)) = r-below (m * up e) (down e) r (down h) (m * up e * down h) (n * up h * down e) (down_pos e) (down_pos h) refl over l k

  is_zero : (m * up e * down h + n * up h * down e) * 2 < down e * down h → r ≡ 0
  is_zero l = r-zero (m * up e) (down e) r (down h) (m * up e * down h) (n * up h * down e) (down_pos e) (down_pos h) refl over l

  near-zero : (m * up e * down h + n * up h * down e) * 2 < down e * down h → half_up (m * up e) (down e) ≡ 0
  near-zero l = none (m * up e) (down e) r (down h) (m * up e * down h) (n * up h * down e) (down_pos e) (down_pos h) refl over l

  denominator : 0 < down e * down h
  denominator = mul-pos (down_pos e) (down_pos h)

  -- opposite signs
  crossing : (s : Bool) → T (fits binary64 (fin (not s) n h)) → lt minus-half (add binary64 (fin s m e) (fin (not s) n h)) ≡ true → lt (add binary64 (fin s m e) (fin (not s) n h)) half ≡ true
      → add binary64 (fin s m e) (fin (not s) n h) ≡ sub binary64 (fin s m e) (nearest_whole (fin s m e))
  crossing s t lo hi =
      by_neg s m e (fin (not s) n h) r (apart (opposite s (m * up e * down h) (n * up h * down e) (down e * down h) denominator (unfold add in lo) (unfold add in hi))) (own-whole (not s) n h r t v)

  -- no sign, on either
  both-plus : T (fits binary64 (fin false n h)) → lt minus-half (add binary64 (fin false m e) (fin false n h)) ≡ true → lt (add binary64 (fin false m e) (fin false n h)) half ≡ true
      → add binary64 (fin false m e) (fin false n h) ≡ sub binary64 (fin false m e) (nearest_whole (fin false m e))
  both-plus t lo hi =
      let k = small false (m * up e * down h + n * up h * down e) (down e * down h) denominator (unfold add sum in lo) (unfold add sum in hi) in
      let z : fin false n h ≡ fin false zero (pos 0) = sym (own-whole false n h r t v) ∙ ap (λ (y : ℕ). round binary64 false y 1) (is_zero k) ∙ zero_is false in
      ap (λ (y : Float). add binary64 (fin false m e) y) z ∙ plus-zero m e ∙ by_neg false m e (fin true zero (pos 0)) 0 (near-zero k) (zero_is true)

  -- a minus on both: then r would be 0
  both-minus : 0 < r → lt minus-half (add binary64 (fin true m e) (fin true n h)) ≡ true → lt (add binary64 (fin true m e) (fin true n h)) half ≡ true → ⊥
  both-minus P lo hi =
      let k = small true (m * up e * down h + n * up h * down e) (down e * down h) denominator (unfold add sum in lo) (unfold add sum in hi) in
      clash r P (is_zero k)
    where
      clash : (r : ℕ) → 0 < r → r ≡ 0 → ⊥
      clash r p q = omega arith

-- the sum of d and the whole number t lies between minus a half and a half
wrapped-by : (s : Bool) (m : ℕ) (e : ℤ) (t : Float) (u : Bool) (r : ℕ) → T (fits binary64 t) → Whole t u r → (u ≡ true → 0 < r)
    → lt minus-half (add binary64 (fin s m e) t) ≡ true → lt (add binary64 (fin s m e) t) half ≡ true
    → add binary64 (fin s m e) t ≡ sub binary64 (fin s m e) (nearest_whole (fin s m e))
wrapped-by s m e nan u r t v P lo hi = absurd v
wrapped-by s m e (inf w) u r t v P lo hi = absurd v
wrapped-by false m e (fin false n h) u r t v P lo hi = both-plus m e n h r v.1 t lo hi
wrapped-by false m e (fin true n h) u r t v P lo hi = crossing m e n h r v.1 false t lo hi
wrapped-by true m e (fin false n h) u r t v P lo hi = crossing m e n h r v.1 true t lo hi
wrapped-by true m e (fin true n h) u r t v P lo hi = absurd (both-minus m e n h r v.1 (P (sym v.0)) lo hi)

-- ---- what is taken off

shift : Float
shift = fin false 3 (pos 51)

-- an infinity, or a whole number, which is not -0
abbrev Taken : Float → Type 0
Taken t = (t ≡ inf true) ⊎ (t ≡ inf false) ⊎ ((u : Bool) × (r : ℕ) × Whole t u r × (u ≡ true → 0 < r))

taken-off : (k j : ℕ) → Taken (sub binary64 shift (fin false k (pos j)))
unfolding sub add sum neg shift
taken-off k j = go (3 * 2 ^ 51 * 1) (k * 2 ^ j * 1) (ltb (3 * 2 ^ 51 * 1) (k * 2 ^ j * 1)) (ltb-true (3 * 2 ^ 51 * 1) (k * 2 ^ j * 1))
  where
    above : (n : ℕ) → 0 < n → Taken (round binary64 true n 1)
    above n p = subst Taken (neg_round binary64 false n 1) (turned (whole_round n p))
      where
        turned : (round binary64 false n 1 ≡ inf false) ⊎ ((r : ℕ) × (0 < r) × Whole (round binary64 false n 1) false r) → Taken (neg (round binary64 false n 1))
        turned (inl e) = inl (ap neg e)
        turned (inr (r, q, w)) = inr (inr (true, r, neg_whole (round binary64 false n 1) false r w, λ _. q))

    below : (n : ℕ) → Taken (round binary64 false n 1)
    below zero = inr (inr (false, 0, round_whole binary64 false 0 (omega arith), λ e. absurd (false≢true e)))
    below (suc n) = straight (whole_round (suc n) (zero-lt-suc n))
      where
        straight : (round binary64 false (suc n) 1 ≡ inf false) ⊎ ((r : ℕ) × (0 < r) × Whole (round binary64 false (suc n) 1) false r) → Taken (round binary64 false (suc n) 1)
        straight (inl e) = inr (inl e)
        straight (inr (r, q, w)) = inr (inr (false, r, w, λ _. q))

    positive : (a b : ℕ) → a < b → 0 < b - a
    positive a b l = omega arith

    go : (a b : ℕ) (w : Bool) → (w ≡ true → a < b) → Taken (cond w (round binary64 true (b - a) 1) (round binary64 false (a - b) 1))
    go a b true l = above (b - a) (positive a b (l refl))
    go a b false l = below (a - b)

-- ---- the difference d, and y = d + shift

module _ (s : Bool) (m : ℕ) (e : ℤ) where
  from-taken : (t : Float) → T (fits binary64 t) → Taken t → lt minus-half (add binary64 (fin s m e) t) ≡ true → lt (add binary64 (fin s m e) t) half ≡ true
      → add binary64 (fin s m e) t ≡ sub binary64 (fin s m e) (nearest_whole (fin s m e))
  from-taken t f (inl q) lo hi = absurd (false≢true (sym (ap (λ (y : Float). lt minus-half (add binary64 (fin s m e) y)) q ∙ (unfold lt add minus-half in refl)) ∙ lo))
  from-taken t f (inr (inl q)) lo hi = absurd (false≢true (sym (ap (λ (y : Float). lt (add binary64 (fin s m e) y) half) q ∙ (unfold lt add half in refl)) ∙ hi))
  from-taken t f (inr (inr (u, r, w, P))) lo hi = wrapped-by s m e t u r f w P lo hi

  from-sum : (y : Float) → T (fits binary64 y) → lt (fin false 1 (pos 52)) y ≡ true → lt minus-half (add binary64 (fin s m e) (sub binary64 shift y)) ≡ true
      → lt (add binary64 (fin s m e) (sub binary64 shift y)) half ≡ true → add binary64 (fin s m e) (sub binary64 shift y) ≡ sub binary64 (fin s m e) (nearest_whole (fin s m e))
  from-sum nan f l lo hi = absurd (false≢true (unfold lt in l))
  from-sum (inf true) f l lo hi = absurd (false≢true (unfold lt in l))
  from-sum (inf false) f l lo hi = absurd (false≢true (unfold lt add sub neg shift minus-half in lo))
  from-sum (fin true k g) f l lo hi = absurd (false≢true (unfold lt in l))
  from-sum (fin false k g) f l lo hi =
      from-taken (sub binary64 shift (fin false k g)) (sub-fits binary64 shift (fin false k g)) (go (big k g f (least (down g) (k * up g) (ltb-true (1 * 2 ^ 52 * down g) (k * up g * 1) (unfold lt in l))))) lo hi
    where
      least : (d v : ℕ) → 1 * 2 ^ 52 * d < v * 1 → 2 ^ 52 * d ≤ v
      least d v h = omega arith

      go : (j : ℕ) × (g ≡ pos j) → Taken (sub binary64 shift (fin false k g))
      go (j, q) = subst (λ (z : ℤ). Taken (sub binary64 shift (fin false k z))) (sym q) (taken-off k j)

-- the code's own literals: 2 ^ 52, 1.5 · 2 ^ 52 and a half
pub fast_wrap : (d : Float) → T (fits binary64 d)
    → lt (of_bits binary64 0x4330_0000_0000_0000) (add binary64 d (of_bits binary64 0x4338_0000_0000_0000)) ≡ true
    → lt (neg (of_bits binary64 0x3fe0_0000_0000_0000)) (add binary64 d (sub binary64 (of_bits binary64 0x4338_0000_0000_0000) (add binary64 d (of_bits binary64 0x4338_0000_0000_0000)))) ≡ true
    → lt (add binary64 d (sub binary64 (of_bits binary64 0x4338_0000_0000_0000) (add binary64 d (of_bits binary64 0x4338_0000_0000_0000)))) (of_bits binary64 0x3fe0_0000_0000_0000) ≡ true
    → add binary64 d (sub binary64 (of_bits binary64 0x4338_0000_0000_0000) (add binary64 d (of_bits binary64 0x4338_0000_0000_0000))) ≡ sub binary64 d (nearest_whole d)
unfolding half minus-half shift
fast_wrap nan f l lo hi = absurd (false≢true (unfold lt add of_bits in l))
fast_wrap (inf true) f l lo hi = absurd (false≢true (unfold lt add of_bits in l))
fast_wrap (inf false) f l lo hi = absurd (false≢true (unfold lt add sub neg of_bits in lo))
fast_wrap (fin s m e) f l lo hi = unfold of_bits in from-sum s m e (add binary64 (fin s m e) (fin false 3 (pos 51))) (add-fits binary64 (fin s m e) (fin false 3 (pos 51))) l (unfold neg in lo) hi
