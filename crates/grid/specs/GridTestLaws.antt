-- The test of the grid by comparisons, one product and one rounding. Assumes nothing.
use Rattle.std.specs.Prelude.{◌≡◌, refl, ◌⊎◌, Bool, not, ◌&&◌, ◌||◌, ℕ, zero, suc, ◌+◌, ◌-◌, ◌*◌, ◌/◌, ◌%◌, ◌^◌, ◌≤◌, ◌<◌, T, eqb, leb, ltb, ℤ, pos, negsuc, Float}
use Rattle.std.proofs.Common.{sym, ap, ap₂, ◌∙◌, inl, inr, true≢false, mul-pos, mul-one, mul_assoc, div-add-mod', add-zero, lt_of_lt_of_le, lt_of_le_of_lt, le_of_eq, mul-le-mul_right, le_trans, div-lt_iff_lt-mul, pow-suc, arith, lit<, ltb→lt, leb→le, eqb→eq, pow-add, pow_pos, pow_mono, shl_lt, eqb-true, eq-eqb, ne_eqb, leb-true, le-leb, lt-ltb, le-ltb}
use Rattle.std.proofs.Math.Bool.{true, false, false≢true}
use Rattle.std.specs.Bool.{beq}
use Rattle.std.proofs.Math.Nat.{mul-mod_left, eq_of_mul-eq-mul_right}
use Rattle.std.specs.Float.{nan, inf, fin, binary64}
use Rattle.std.specs.Float.Ieee.{up, down, mul, round, lt, le, eq, fits, of_bits, level}
use Rattle.std.specs.Float.Ieee.Digits.{back}
use Rattle.std.specs.Float.Ieee.Exact.{HasValue, round_exact}
use Rattle.std.specs.Float.Ieee.Fits.{down_pos, and_l, and_r}
use Rattle.std.specs.Float.Ieee.Back.{round_whole}
use Rattle.std.proofs.lemmas.Bool.{lt-leb}
use Rattle.lists.specs.Cases.{lt_or_le, eq_or_ne}
use Rattle.lists.specs.Tests.{same_test, not-both}
use Rattle.common.specs.Whole.{half_up, nearest_whole}
use Rattle.common.proofs.Wholes.{half_up-same, half_up-whole}
use Rattle.grid.specs.Grid.{on_grid}

-- 2^20 and -2^20, as the code writes them
abbrev pub top : Float
top = of_bits binary64 0x4130_0000_0000_0000

abbrev pub bottom : Float
bottom = of_bits binary64 0xc130_0000_0000_0000

top_is : top ≡ fin false 1 (pos 20)
unfolding of_bits
top_is = refl

bottom_is : bottom ≡ fin true 1 (pos 20)
unfolding of_bits
bottom_is = refl

-- ---- two values of one sign are equal where their fractions are

same_sign : (s t r : Bool) → s ≡ r → t ≡ r → beq s t ≡ true
same_sign true true r e f = refl
same_sign false false r e f = refl
same_sign true false r e f = absurd (true≢false (e ∙ sym f))
same_sign false true r e f = absurd (false≢true (e ∙ sym f))

level_is : (s t r : Bool) (x y : ℕ) → s ≡ r → t ≡ r → level s x t y ≡ eqb x y
level_is s t r x y e f = rw (same_sign s t r e f) (go (eqb x y))
  where
    go : (b : Bool) → (b && true) ≡ b
    go true = refl
    go false = refl

cross_eq : (m u c a d n w f b g : ℕ) → 0 < c → 0 < d → 0 < f → 0 < g → m * u * c ≡ a * d → n * w * g ≡ b * f → eqb (m * u * f) (n * w * d) ≡ eqb (a * g) (b * c)
cross_eq m u c a d n w f b g C D F G e h =
    same_test (eqb (m * u * f) (n * w * d)) (eqb (a * g) (b * c))
    (λ t. let q = eqb-true (m * u * f) (n * w * d) t in eq-eqb (a * g) (b * c) (eq_of_mul-eq-mul_right (d * f) (mul-pos D F) (a * g) (b * c) (to q)))
    (λ t. let q = eqb-true (a * g) (b * c) t in eq-eqb (m * u * f) (n * w * d) (eq_of_mul-eq-mul_right (c * g) (mul-pos C G) (m * u * f) (n * w * d) (from q)))
  where
    to : m * u * f ≡ n * w * d → a * g * (d * f) ≡ b * c * (d * f)
    to q = omega (arith, ap (λ z. z * (g * f)) e, ap (λ z. z * (c * g)) q, ap (λ z. z * (c * d)) h)

    from : a * g ≡ b * c → m * u * f * (c * g) ≡ n * w * d * (c * g)
    from q = omega (arith, ap (λ z. z * (g * f)) e, ap (λ z. z * (d * f)) q, ap (λ z. z * (c * d)) h)

pub eq_values : (x y : Float) (s : Bool) (a c b g : ℕ) → 0 < c → 0 < g → HasValue x s a c → HasValue y s b g → eq x y ≡ eqb (a * g) (b * c)
unfolding eq
eq_values nan y s a c b g C G h k = absurd h
eq_values (inf t) y s a c b g C G h k = absurd h
eq_values (fin t m e) nan s a c b g C G h k = absurd k
eq_values (fin t m e) (inf u) s a c b g C G h k = absurd k
eq_values (fin t m e) (fin u n f) s a c b g C G h k =
    level_is t u s (m * up e * down f) (n * up f * down e) h.0 k.0
    ∙ cross_eq m (up e) c a (down e) n (up f) (down f) b g C (down_pos e) (down_pos f) G h.1 k.1

-- ---- the nearest whole number of a fraction is the fraction where it is whole

nearest_at : (x : Float) (s : Bool) (a c : ℕ) → 0 < c → HasValue x s a c → nearest_whole x ≡ round binary64 s (half_up a c) 1
unfolding nearest_whole
nearest_at nan s a c C h = absurd h
nearest_at (inf t) s a c C h = absurd h
nearest_at (fin t m e) s a c C h = ap₂ (λ t n. round binary64 t n 1) h.0 (half_up-same (m * up e) (down e) a c (down_pos e) C h.1)

whole_is : (a c : ℕ) → 0 < c → eqb (half_up a c * c) (a * 1) ≡ eqb (a % c) 0
whole_is a c C =
    same_test (eqb (half_up a c * c) (a * 1)) (eqb (a % c) 0)
    (λ t. let q : half_up a c * c ≡ a * 1 = eqb-true (half_up a c * c) (a * 1) t in eq-eqb (a % c) 0 (ap (λ z. z % c) (sym (q ∙ mul-one a)) ∙ mul-mod_left (half_up a c) c))
    (λ t.
    let q : a % c ≡ 0 = eqb-true (a % c) 0 t in
    let w : a ≡ a / c * c = sym (div-add-mod' a c) ∙ ap (λ r. a / c * c + r) q ∙ add-zero (a / c * c) in
    eq-eqb (half_up a c * c) (a * 1) (ap (λ z. z * c) (ap (λ z. half_up z c) w ∙ half_up-whole (a / c) c C) ∙ sym w ∙ sym (mul-one a)))

half-small : (a c k : ℕ) → 0 < c → a ≤ k * c → half_up a c < k + 1
unfolding half_up
half-small a c k C h = (div-lt_iff_lt-mul (mul-pos (lit< tt) C)).1 (omega arith)

-- ---- the product with 2^20 is exact

-- what a format's number is
held : (s : Bool) (m : ℕ) (e : ℤ) → T (fits binary64 (fin s m e)) → (m < 2 ^ 53) × (down e ≤ 2 ^ 1074)
unfolding fits
held s zero (pos k) F = (pow_pos 53, pow_pos 1074)
held s zero (negsuc k) F = (pow_pos 53, le_trans (one (2 ^ suc k) (eqb→eq (1 * 2 ^ suc k) 1 F)) (pow_pos 1074))
  where
    one : (z : ℕ) → 1 * z ≡ 1 → z ≤ 1
    one z e = omega arith
held s (suc m) e F =
    let a = eqb (suc m % 2) 1 in
    let b = ltb (suc m) (2 ^ 53) in
    let c = leb (down e) (2 ^ 1074) in
    let d = ltb (suc m * up e) (2 ^ 1024 * down e) in
    let abc = and_l (a && b && c) d F in
    (ltb→lt (suc m) (2 ^ 53) (and_r a b (and_l (a && b) c abc)), leb→le (down e) (2 ^ 1074) (and_r (a && b) c abc))

pow_le_back : (a b : ℕ) → 2 ^ a ≤ 2 ^ b → a ≤ b
pow_le_back a b h = go (lt_or_le b a)
  where
    go : (b < a) ⊎ (a ≤ b) → a ≤ b
    go (inl l) = absurd (too_large (2 ^ suc b) (2 ^ a) (2 ^ b) (pow_mono {i = suc b} {j = a} l) h (pow-suc 2 b) (pow_pos b))
      where
        too_large : (x y z : ℕ) → x ≤ y → y ≤ z → x ≡ z * 2 → 0 < z → ⊥
        too_large x y z p q r t = omega arith
    go (inr l) = l

signs : (s : Bool) → not (beq s false) ≡ s
signs true = refl
signs false = refl

-- 2^20 · 2^1074 is 2^(1094 - d) · 2^d
scale : (d : ℕ) → d ≤ 1094 → 2 ^ 20 * 2 ^ 1074 ≡ 2 ^ (1094 - d) * 2 ^ d
scale d h = sym (pow-add 2 20 1074) ∙ ap (λ z. 2 ^ z) (sym (back 1094 d h)) ∙ pow-add 2 (1094 - d) d

up_case : (m p r t l : ℕ) → l ≡ t → m * p * (1 * r) * l ≡ m * (p * (r * t)) * (1 * 1)
up_case m p r t l e = omega (arith, ap (λ z. m * p * r * z) e)

down_case : (m r l q d : ℕ) → r * l ≡ q * d → m * 1 * (1 * r) * l ≡ m * q * (d * 1)
down_case m r l q d e = omega (arith, ap (λ z. m * z) e)

product : (s : Bool) (m : ℕ) (e : ℤ) → T (fits binary64 (fin s m e)) → m * up e ≤ 2 ^ 20 * down e
    → HasValue (round binary64 s (m * up e * (1 * 2 ^ 20)) (down e * 1)) s (m * up e * (1 * 2 ^ 20)) (down e * 1)
product s m (pos k) F b =
    let M = (held s m (pos k) F).0 in
    round_exact binary64 s (m * 2 ^ k * (1 * 2 ^ 20)) (1 * 1) m (k + (20 + 1074)) (lit< tt) M bound shape
  where
    three : 2 ^ (k + (20 + 1074)) ≡ 2 ^ k * (2 ^ 20 * 2 ^ 1074)
    three = pow-add 2 k (20 + 1074) ∙ ap (λ z. 2 ^ k * z) (pow-add 2 20 1074)

    shape : m * 2 ^ k * (1 * 2 ^ 20) * 2 ^ 1074 ≡ m * 2 ^ (k + (20 + 1074)) * (1 * 1)
    shape = up_case m (2 ^ k) (2 ^ 20) (2 ^ 1074) (2 ^ 1074) refl ∙ ap (λ z. m * z * (1 * 1)) (sym three)

    bound : m * 2 ^ (k + (20 + 1074)) < 2 ^ 2098
    bound =
        let e : m * 2 ^ (k + (20 + 1074)) ≡ m * 2 ^ k * 2 ^ 1094 = ap (λ z. m * z) (pow-add 2 k 1094) ∙ sym (mul_assoc m (2 ^ k) (2 ^ 1094)) in
        lt_of_le_of_lt (le_of_eq e) (lt_of_le_of_lt (mul-le-mul_right (2 ^ 1094) b) (lit< tt))
product s m (negsuc k) F b =
    let (M, D) = held s m (negsuc k) F in
    let d : suc k ≤ 1074 = pow_le_back (suc k) 1074 D in
    let j = 1094 - suc k in
    round_exact binary64 s (m * 1 * (1 * 2 ^ 20)) (2 ^ suc k * 1) m j (mul-pos (pow_pos (suc k)) (lit< tt)) M
    (lt_of_lt_of_le (shl_lt 53 j M) (pow_mono {i = 53 + j} {j = 2098} (omega arith)))
    (down_case m (2 ^ 20) (2 ^ 1074) (2 ^ j) (2 ^ suc k) (scale (suc k) (omega arith)))

-- ---- the comparisons

one_more : (a b : ℕ) → (ltb a b || (eqb a b && true)) ≡ leb a b
one_more a b = go (lt_or_le a b) (eq_or_ne a b)
  where
    go : (a < b) ⊎ (b ≤ a) → (a ≡ b) ⊎ (a ≡ b → ⊥) → (ltb a b || (eqb a b && true)) ≡ leb a b
    go (inl l) d = rw (lt-ltb a b l, le-leb a b (omega arith))
    go (inr l) (inl e) = rw (le-ltb a b l, eq-eqb a b e, le-leb a b (omega arith))
    go (inr l) (inr d) = rw (le-ltb a b l, ne_eqb a b d, lt-leb a b (omega arith))

within : (m u d : ℕ) → leb (m * u * 1) (1 * 2 ^ 20 * d) ≡ leb (m * u) (2 ^ 20 * d)
within m u d = let p : m * u * 1 ≡ m * u = omega arith in let q : 1 * 2 ^ 20 * d ≡ 2 ^ 20 * d = omega arith in rw (p, q)

some-room : (d a : ℕ) → 0 < d → ltb 0 (1 * 2 ^ 20 * d + a) ≡ true
some-room d a h = lt-ltb 0 (1 * 2 ^ 20 * d + a) (omega arith)

below_top : (s : Bool) (m : ℕ) (e : ℤ) → le (fin s m e) (fin false 1 (pos 20)) ≡ (s || leb (m * up e) (2 ^ 20 * down e))
unfolding le lt eq
below_top false m e = one_more (m * up e * 1) (1 * 2 ^ 20 * down e) ∙ within m (up e) (down e)
below_top true m e = rw (lt-ltb 0 (m * up e * 1 + 1 * 2 ^ 20 * down e) (let h = down_pos e in omega arith))

above_bottom : (s : Bool) (m : ℕ) (e : ℤ) → le (fin true 1 (pos 20)) (fin s m e) ≡ (not s || leb (m * up e) (2 ^ 20 * down e))
unfolding le lt eq
above_bottom false m e = rw (some-room (down e) (m * up e * 1) (down_pos e))
above_bottom true m e = ap (λ b. ltb (m * up e * 1) (1 * 2 ^ 20 * down e) || (b && true)) (eqb_swap (1 * 2 ^ 20 * down e) (m * up e * 1)) ∙ one_more (m * up e * 1) (1 * 2 ^ 20 * down e) ∙ within m (up e) (down e)
  where
    eqb_swap : (a b : ℕ) → eqb a b ≡ eqb b a
    eqb_swap a b = same_test (eqb a b) (eqb b a) (λ t. eq-eqb b a (sym (eqb-true a b t))) (λ t. eq-eqb a b (sym (eqb-true b a t)))

-- ---- THE TEST

off-grid : (b c : Bool) → c ≡ false → (b && c) ≡ false
off-grid true c e = e
off-grid false c e = refl

-- a number that is above 2^20
pub not-below : (x : Float) → le x top ≡ false → false ≡ on_grid x
unfolding on_grid
not-below nan h = refl
not-below (inf s) h = refl
not-below (fin true m e) h = absurd (not-both (ap (le (fin true m e)) top_is ∙ below_top true m e) h)
not-below (fin false m e) h = sym (off-grid (eqb (m * up e * 2 ^ 20 % down e) 0) (leb (m * up e) (2 ^ 20 * down e)) (sym (ap (le (fin false m e)) top_is ∙ below_top false m e) ∙ h))

-- or below -2^20
pub not_above : (x : Float) → le bottom x ≡ false → false ≡ on_grid x
unfolding on_grid
not_above nan h = refl
not_above (inf s) h = refl
not_above (fin false m e) h = absurd (not-both (ap (λ b. le b (fin false m e)) bottom_is ∙ above_bottom false m e) h)
not_above (fin true m e) h = sym (off-grid (eqb (m * up e * 2 ^ 20 % down e) 0) (leb (m * up e) (2 ^ 20 * down e)) (sym (ap (λ b. le b (fin true m e)) bottom_is ∙ above_bottom true m e) ∙ h))

-- or between: the product is whole exactly if the number is a multiple
tested : (s : Bool) (m : ℕ) (e : ℤ) → T (fits binary64 (fin s m e)) → leb (m * up e) (2 ^ 20 * down e) ≡ true
    → eq (nearest_whole (mul binary64 (fin s m e) (fin false 1 (pos 20)))) (mul binary64 (fin s m e) (fin false 1 (pos 20))) ≡ on_grid (fin s m e)
unfolding on_grid mul
tested s m e F h =
    let b = leb-true (m * up e) (2 ^ 20 * down e) h in
    let a = m * up e * (1 * 2 ^ 20) in
    let c = down e * 1 in
    let C : 0 < c = mul-pos (down_pos e) (lit< tt) in
    let y = round binary64 s a c in
    let v : HasValue y s a c = product s m e F b in
    let n = half_up a c in
    let hn : n < 2 ^ 40 + 1 = half-small a c (2 ^ 40) C (omega arith) in
    let w : HasValue (round binary64 s n 1) s n 1 = round_whole binary64 s n (few n hn) in
    let q : m * up e * (1 * 2 ^ 20) ≡ m * up e * 2 ^ 20 = omega arith in
    let r : down e * 1 ≡ down e = mul-one (down e) in
    ap (λ t. eq (nearest_whole (round binary64 t a c)) (round binary64 t a c)) (signs s)
    ∙ ap (λ z. eq z y) (nearest_at y s a c C v)
    ∙ eq_values (round binary64 s n 1) y s n 1 a c (lit< tt) C w v
    ∙ whole_is a c C
    ∙ ap₂ (λ a c. eqb (a % c) 0) q r
    ∙ sym (rw h (go (eqb (m * up e * 2 ^ 20 % down e) 0)))
  where
    few : (n : ℕ) → n < 2 ^ 40 + 1 → n ≤ 2 ^ 53
    few n h = omega arith

    go : (b : Bool) → (b && true) ≡ b
    go true = refl
    go false = refl

pub between : (x : Float) → T (fits binary64 x) → le x top ≡ true → le bottom x ≡ true → eq (nearest_whole (mul binary64 x top)) (mul binary64 x top) ≡ on_grid x
between x F h g = rw top_is (go x F (rw top_is at h) (rw bottom_is at g))
  where
    go : (x : Float) → T (fits binary64 x) → le x (fin false 1 (pos 20)) ≡ true → le (fin true 1 (pos 20)) x ≡ true
        → eq (nearest_whole (mul binary64 x (fin false 1 (pos 20)))) (mul binary64 x (fin false 1 (pos 20))) ≡ on_grid x
    go nan F h g = absurd (none h)
      where
        none : le nan (fin false 1 (pos 20)) ≡ true → ⊥
        none h = unfold le lt eq in false≢true h
    go (inf true) F h g = absurd (none g)
      where
        none : le (fin true 1 (pos 20)) (inf true) ≡ true → ⊥
        none h = unfold le lt eq in false≢true h
    go (inf false) F h g = absurd (none h)
      where
        none : le (inf false) (fin false 1 (pos 20)) ≡ true → ⊥
        none h = unfold le lt eq in false≢true h
    go (fin false m e) F h g = tested false m e F (sym (below_top false m e) ∙ h)
    go (fin true m e) F h g = tested true m e F (sym (above_bottom true m e) ∙ g)
