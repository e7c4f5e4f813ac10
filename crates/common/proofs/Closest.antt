-- The value that the definition of the root gives is nearer to the root than every other one. Assumes nothing.
use Rattle.std.specs.Prelude.{◌≡◌, refl, ◌⊎◌, Bool, true, false, ◌&&◌, ℕ, zero, suc, ◌+◌, ◌-◌, ◌*◌, ◌/◌, ◌%◌, ◌^◌, ◌≤◌, ◌<◌, T, leb, ltb, eqb, ℤ, Float}
use Rattle.std.proofs.Common.{sym, ap, ◌∙◌, subst, inl, inr, true≢false, le_trans, le_of_lt, le_of_eq, le_antisymm, lt_of_not-le, lt_of_lt_of_le, lt_of_le_of_lt, le_of_suc-le-suc, add-zero, zero-mul, mul-one, mul_assoc, mul-pos, mul-le-mul_right, mul-lt-mul_of_pos_right, lt_of_mul-lt-mul_right, arith, ltb→lt, lt→ltb, lit≤, pow-add, pow_pos, shl_lt}
use Rattle.std.proofs.Math.Nat.{mul-mul-mul_comm}
use Rattle.std.proofs.Math.Arith.{lt_of_le-ne}
use Rattle.std.specs.Int.Count.{count_leading_zeros}
use Rattle.std.specs.Float.Ieee.Digits.{back}
use Rattle.std.specs.Float.{nan, inf, fin, binary64}
use Rattle.std.specs.Float.Ieee.{up, down, fits, lt, to_bits}
use Rattle.std.specs.Float.Ieee.Exact.{HasValue}
use Rattle.std.specs.Float.Ieee.Fits.{round-fits, and_r}
use Rattle.std.specs.Float.Ieee.Scale.{finite}
use Rattle.std.specs.Float.Ieee.Positive.{num, den, positive, above, den_pos, value→cross, positive_of_value, positive-finite}
use Rattle.common.specs.Root.{root, rounded_root, sqrt}
use Rattle.common.specs.RootLaws.{WholeRoot}
use Rattle.common.proofs.RootLaws.{root_is}
use Rattle.common.specs.Laws.Fields.{negative, units_of, sign_of, field_of, digits_of, digits_lt, value_of, field_in, lt_or_le, same-value}
use Rattle.common.specs.Laws.Squares.{square_mono, square_strict}
use Rattle.common.proofs.Rounding.{odd_square, twice-even, halved, rad, r_ge, r_le as r-le', whole, root_pattern, pattern_value}
use Rattle.common.specs.Laws.Roots.{pow_lt_back, positive_at, at_normal, up_by, whole-shift, subnormal_units, at_subnormal, normal_units, value}

-- ---- a value of the format that is 2 ^ (52 + k) units or more is a multiple of 2 ^ k units
grid : (c j k : ℕ) → c < 2 ^ 53 → 2 ^ (52 + k) ≤ c * 2 ^ j → (d : ℕ) × (c * 2 ^ j ≡ d * 2 ^ k)
grid c j k C h =
    let l : k ≤ j = le_of_suc-le-suc (less j (pow_lt_back (52 + k) (53 + j) (lt_of_le_of_lt h (shl_lt 53 j C)))) in
    (c * 2 ^ (j - k), ap (λ (z : ℕ). c * 2 ^ z) (sym (back j k l)) ∙ ap (λ (z : ℕ). c * z) (pow-add 2 (j - k) k) ∙ sym (mul_assoc c (2 ^ (j - k)) (2 ^ k)))
  where
    less : (j : ℕ) → 52 + k < 53 + j → suc k ≤ suc j
    less j h = omega arith

units_grid : (f t k : ℕ) → t < 2 ^ 52 → 2 ^ (52 + k) ≤ units_of f t → (d : ℕ) × (units_of f t ≡ d * 2 ^ k)
units_grid zero t k D h = grid t 0 k (omega arith) h
units_grid (suc j) t k D h = grid (2 ^ 52 + t) j k (omega arith) h

-- ---- in units: r is m * 2 ^ k, another value is b, and the root's square is n * 4 ^ k
module _ (n r m p b : ℕ) (P : 0 < p) (w : WholeRoot n r) (E : n % 2 ≡ 0) (c : (2 * m ≡ r) ⊎ (2 * m ≡ r + 1)) (lo : 2 ^ 53 ≤ r) (g : 2 ^ 52 * p ≤ b → (d : ℕ) × (b ≡ d * p)) where
  at_odd : 2 * m ≡ r + 1 → 2 ^ 52 + 1 ≤ m
  at_odd e = omega arith

  at-any : 2 ^ 52 ≤ m
  at-any = go c
    where
      go : (2 * m ≡ r) ⊎ (2 * m ≡ r + 1) → 2 ^ 52 ≤ m
      go (inl e) = omega arith
      go (inr e) = omega arith

  r_le : r + 1 ≤ 2 * m + 1
  r_le = go c
    where
      go : (2 * m ≡ r) ⊎ (2 * m ≡ r + 1) → r + 1 ≤ 2 * m + 1
      go (inl e) = omega arith
      go (inr e) = omega arith

  -- the next value below is one step away at least
  step_down : 2 ^ 52 + 1 ≤ m → b < m * p → b + p ≤ m * p
  step_down M h = go (lt_or_le b (2 ^ 52 * p))
    where
      on-grid : (d : ℕ) → b ≡ d * p → b + p ≤ m * p
      on-grid d e = omega (arith, mul-le-mul_right p (lt_of_mul-lt-mul_right p (lt_of_le_of_lt (le_of_eq (sym e)) h)))

      go : (b < 2 ^ 52 * p) ⊎ (2 ^ 52 * p ≤ b) → b + p ≤ m * p
      go (inl l) = omega (arith, mul-le-mul_right p M)
      go (inr l) = on-grid (g l).0 (g l).1

  step_up : m * p < b → (m + 1) * p ≤ b
  step_up h =
      let l : 2 ^ 52 * p ≤ b = le_trans (mul-le-mul_right p at-any) (le_of_lt h) in
      on-grid (g l).0 (g l).1
    where
      on-grid : (d : ℕ) → b ≡ d * p → (m + 1) * p ≤ b
      on-grid d e = omega (arith, mul-le-mul_right p (lt_of_mul-lt-mul_right p (lt_of_lt_of_le h (le_of_eq e))))

  low_side : b < m * p → (m * p + b) * (m * p + b) < n * (p * p)
  low_side h = go c
    where
      go : (2 * m ≡ r) ⊎ (2 * m ≡ r + 1) → (m * p + b) * (m * p + b) < n * (p * p)
      go (inl e) =
          lt_of_lt_of_le (square_strict (m * p + b) (r * p) (omega (arith, ap (λ (z : ℕ). z * p) e)))
          (le_trans (le_of_eq (mul-mul-mul_comm r p r p)) (mul-le-mul_right (p * p) w.0))
      go (inr e) =
          lt_of_le_of_lt (square_mono (m * p + b) (r * p) (omega (arith, step_down (at_odd e) h, ap (λ (z : ℕ). z * p) e)))
          (lt_of_le_of_lt (le_of_eq (mul-mul-mul_comm r p r p)) (mul-lt-mul_of_pos_right (lt_of_le-ne w.0 (odd_square n r m E e)) (mul-pos P P)))

  high_side : m * p < b → n * (p * p) < (m * p + b) * (m * p + b)
  high_side h =
      lt_of_lt_of_le (mul-lt-mul_of_pos_right (lt_of_lt_of_le w.1 (square_mono (r + 1) (2 * m + 1) r_le)) (mul-pos P P))
      (le_trans (le_of_eq (sym (mul-mul-mul_comm (2 * m + 1) p (2 * m + 1) p))) (square_mono ((2 * m + 1) * p) (m * p + b) (omega (arith, step_up h))))

-- ---- the same of fractions: s / d is twice the mean, a / c is x
module _ (s d a c u l q : ℕ) (D : 0 < d) (C : 0 < c) (e : s * l ≡ q * d) (f : a * l ≡ u * c) where
  left : s * s * c * (l * l) ≡ q * q * (d * d * c)
  left = omega (arith, ap (λ (z : ℕ). z * z * c) e)

  right : a * (2 * d * (2 * d)) * (l * l) ≡ 4 * (u * l) * (d * d * c)
  right = omega (arith, ap (λ (z : ℕ). z * (d * d * l)) f)

  mean-below : q * q < 4 * (u * l) → s * s * c < a * (2 * d * (2 * d))
  mean-below h = lt_of_mul-lt-mul_right (l * l) (lt_of_le_of_lt (le_of_eq left) (lt_of_lt_of_le (mul-lt-mul_of_pos_right h (mul-pos (mul-pos D D) C)) (le_of_eq (sym right))))

  mean_above : 4 * (u * l) < q * q → a * (2 * d * (2 * d)) < s * s * c
  mean_above h = lt_of_mul-lt-mul_right (l * l) (lt_of_le_of_lt (le_of_eq right) (lt_of_lt_of_le (mul-lt-mul_of_pos_right h (mul-pos (mul-pos D D) C)) (le_of_eq (sym left))))

-- ---- the order of two values that are not negative, in units
cross_lt : (x y : Float) (a b l : ℕ) → HasValue x false a l → HasValue y false b l → T (lt x y) → num x * den y < num y * den x
unfolding lt
cross_lt nan y a b l h k t = absurd h
cross_lt (inf s) y a b l h k t = absurd h
cross_lt (fin true m e) y a b l h k t = absurd (true≢false h.0)
cross_lt (fin false m e) nan a b l h k t = absurd k
cross_lt (fin false m e) (inf s) a b l h k t = absurd k
cross_lt (fin false m e) (fin true n d) a b l h k t = absurd (true≢false k.0)
cross_lt (fin false m e) (fin false n d) a b l h k t = ltb→lt (m * up e * down d) (n * up d * down e) t

units_lt : (x y : Float) (a b l : ℕ) → 0 < l → HasValue x false a l → HasValue y false b l → T (lt x y) → a < b
units_lt x y a b l L h k t = go (num x) (num y) (den x) (den y) (den_pos x) (den_pos y) (value→cross x a l h) (value→cross y b l k) (cross_lt x y a b l h k t)
  where
    go : (s t c d : ℕ) → 0 < c → 0 < d → s * l ≡ a * c → t * l ≡ b * d → s * d < t * c → a < b
    go s t c d C D e f g = lt_of_mul-lt-mul_right (c * d) (omega (arith, ap (λ (z : ℕ). z * d) e, ap (λ (z : ℕ). z * c) f, mul-lt-mul_of_pos_right g L))

lt_cross : (x y : Float) (a b l : ℕ) → HasValue x false a l → HasValue y false b l → num x * den y < num y * den x → T (lt x y)
unfolding lt
lt_cross nan y a b l h k t = absurd h
lt_cross (inf s) y a b l h k t = absurd h
lt_cross (fin true m e) y a b l h k t = absurd (true≢false h.0)
lt_cross (fin false m e) nan a b l h k t = absurd k
lt_cross (fin false m e) (inf s) a b l h k t = absurd k
lt_cross (fin false m e) (fin true n d) a b l h k t = absurd (true≢false k.0)
lt_cross (fin false m e) (fin false n d) a b l h k t = lt→ltb (m * up e * down d) (n * up d * down e) t

lt_units : (x y : Float) (a b l : ℕ) → 0 < l → HasValue x false a l → HasValue y false b l → a < b → T (lt x y)
lt_units x y a b l L h k g = lt_cross x y a b l h k (go (num x) (num y) (den x) (den y) (den_pos x) (den_pos y) (value→cross x a l h) (value→cross y b l k))
  where
    go : (s t c d : ℕ) → 0 < c → 0 < d → s * l ≡ a * c → t * l ≡ b * d → s * d < t * c
    go s t c d C D e f = lt_of_mul-lt-mul_right l (omega (arith, ap (λ (z : ℕ). z * d) e, ap (λ (z : ℕ). z * c) f, mul-lt-mul_of_pos_right g (mul-pos C D)))

-- ---- v is the root of x, rounded
record Shape (x v : Float) : Type 0 where
  n : ℕ
  r : ℕ
  m : ℕ
  k : ℕ
  u : ℕ
  whole-root : WholeRoot n r
  even : n % 2 ≡ 0
  half : (2 * m ≡ r) ⊎ (2 * m ≡ r + 1)
  large : 2 ^ 53 ≤ r
  of_x : HasValue x false u (2 ^ 1074)
  of_v : HasValue v false (m * 2 ^ k) (2 ^ 1074)
  square : 4 * (u * 2 ^ 1074) ≡ n * (2 ^ k * 2 ^ k)

four : (u l : ℕ) → 4 * (u * l) ≡ u * (4 * l)
four u l = omega arith

shape_of : (x v : Float) (u q g : ℕ) → 2 ^ 52 ≤ q → q < 2 ^ 53 → g < 4090 → HasValue x false u (2 ^ 1074) → u * 2 ^ 1076 ≡ q * 2 ^ (g + 54) → rounded_root binary64 (q * 2 ^ (g + 54)) 1075 ≡ v → Shape x v
shape_of x v u q g lo hi G h e i =
    let n = rad q g lo hi * 2 ^ 54 in
    let r = root n in
    let w = root_is n in
    let a : 2 ^ 53 ≤ r = r_ge q g lo hi r w in
    let b : r + 2 ≤ 2 ^ 54 = r-le' q g lo hi r w in
    record {
      n = n;
      r = r;
      m = (r + 1) / 2;
      k = g / 2;
      u = u;
      whole-root = w;
      even = twice-even (rad q g lo hi);
      half = halved r;
      large = a;
      of_x = h;
      of_v = subst (λ (z : Float). HasValue z false ((r + 1) / 2 * 2 ^ (g / 2)) (2 ^ 1074)) (root_pattern q g lo hi r w G ∙ i) (pattern_value (g / 2) ((r + 1) / 2) (omega arith) (omega arith) (omega arith));
      square = four u (2 ^ 1074) ∙ e ∙ sym (whole q g lo hi r w);
    }

-- ---- a finite value in units, by its own pattern
above_of : (x : Float) → T (positive x) → T (above x)
above_of nan p = p
above_of (inf s) p = absurd p
above_of (fin true m e) p = p
above_of (fin false m e) p = p

own_sign : (x : Float) (s t : Bool) (a c : ℕ) → negative x ≡ t → HasValue x s a c → HasValue x t a c
own_sign nan s t a c e h = absurd h
own_sign (inf u) s t a c e h = absurd h
own_sign (fin u m d) s t a c e h = (e, h.1)

module _ (x : Float) (F : T (fits binary64 x)) (N : T (finite x)) where
  abbrev units_in : ℕ
  units_in = units_of (field_of (to_bits binary64 x)) (digits_of (to_bits binary64 x))

  in_units : negative x ≡ false → HasValue x false units_in (2 ^ 1074)
  in_units e = own_sign x (sign_of (to_bits binary64 x)) false units_in (2 ^ 1074) e (value_of x F (field_in x F N))

pub positive_plus : (x : Float) → T (positive x) → negative x ≡ false
positive_plus nan p = refl
positive_plus (inf s) p = absurd p
positive_plus (fin true m e) p = absurd p
positive_plus (fin false m e) p = refl

twice-mean : (a c b d r t l : ℕ) → a * l ≡ r * c → b * l ≡ t * d → (a * d + b * c) * l ≡ (r + t) * (c * d)
twice-mean a c b d r t l e f = omega (arith, ap (λ (z : ℕ). z * d) e, ap (λ (z : ℕ). z * c) f)

some-digits : (r m : ℕ) → 2 ^ 53 ≤ r → (2 * m ≡ r) ⊎ (2 * m ≡ r + 1) → 0 < m
some-digits r m h (inl e) = omega arith
some-digits r m h (inr e) = omega arith

not-less : (x : Float) (n : ℕ) (d : ℤ) → T (positive x) → T (lt x (fin true n d)) → ⊥
unfolding lt
not-less nan n d p l = p
not-less (inf s) n d p l = p
not-less (fin true m e) n d p l = p
not-less (fin false m e) n d p l = l

-- a mean with a value below zero is at most the mean with zero
half_above : (a c x y b d : ℕ) → 0 < d → a * a * y < x * (2 * c * (2 * c)) → (a * d - b * c) * (a * d - b * c) * y < x * (2 * (c * d) * (2 * (c * d)))
half_above a c x y b d D h =
    lt_of_le_of_lt (mul-le-mul_right y (square_mono (a * d - b * c) (a * d) (omega arith)))
    (omega (arith, mul-lt-mul_of_pos_right h (mul-pos D D)))

module _ (x : Float) (F : T (fits binary64 x)) (p : T (positive x)) where
  -- the root
  abbrev v : Float
  v = sqrt binary64 x

  h : Shape x v
  h = elim (lt_or_le (field_of (to_bits binary64 x)) 1) [
    | inl l ↦
        let b = to_bits binary64 x in
        let z : field_of b ≡ 0 = omega arith in
        let A = above_of x p in
        let t = digits_of b in
        let s = up_by x F A z in
        let e = whole-shift x F A z in
        shape_of x v (t * 2 ^ 0) (t * 2 ^ (count_leading_zeros 64 t - 11) % 2 ^ 64) (1022 - (count_leading_zeros 64 t - 11))
        (subst (λ (k : ℕ). 2 ^ 52 ≤ k) (sym e) s.2.1) (subst (λ (k : ℕ). k < 2 ^ 53) (sym e) s.2.2) (omega arith)
        (positive_at x (sign_of b) (t * 2 ^ 0) (2 ^ 1074) A (value x F A z)).1 (sym (subnormal_units x F A z)) (at_subnormal x F A z)
    | inr l ↦
        let b = to_bits binary64 x in
        let n : field_of b ≡ 0 → ⊥ = omega arith in
        let r : field_of b < 2047 = field_in x F (positive-finite x p) in
        shape_of x v (units_of (field_of b) (digits_of b)) (2 ^ 52 + digits_of b) (field_of b + 1021) (omega arith) (omega arith) (omega arith)
        (in_units x F (positive-finite x p) (positive_plus x p)) (sym (normal_units (field_of b) (digits_of b) n)) (at_normal x F (above_of x p) r n)
  ]

  abbrev size : ℕ
  size = h.m * 2 ^ h.k

  pub root_positive : T (positive v)
  root_positive = positive_of_value v size (2 ^ 1074) h.of_v (mul-pos (some-digits h.r h.m h.large h.half) (pow_pos h.k))

  -- any number of units on the grid, a and c being a fraction of its sum with the root
  module _ (a c t : ℕ) (C : 0 < c) (e : a * 2 ^ 1074 ≡ (size + t) * c) (g : 2 ^ 52 * 2 ^ h.k ≤ t → (d : ℕ) × (t ≡ d * 2 ^ h.k)) where
    over-at : t < size → a * a * den x < num x * (2 * c * (2 * c))
    over-at l =
        mean-below a c (num x) (den x) h.u (2 ^ 1074) (size + t) C (den_pos x) e (value→cross x h.u (2 ^ 1074) h.of_x)
        (lt_of_lt_of_le (low_side h.n h.r h.m (2 ^ h.k) t (pow_pos h.k) h.whole-root h.even h.half h.large g l) (le_of_eq (sym h.square)))

    under_at : size < t → num x * (2 * c * (2 * c)) < a * a * den x
    under_at l =
        mean_above a c (num x) (den x) h.u (2 ^ 1074) (size + t) C (den_pos x) e (value→cross x h.u (2 ^ 1074) h.of_x)
        (lt_of_le_of_lt (le_of_eq h.square) (high_side h.n h.r h.m (2 ^ h.k) t (pow_pos h.k) h.whole-root h.even h.half h.large g l))

  -- another value with the sign plus
  module _ (n : ℕ) (d : ℤ) (G : T (fits binary64 (fin false n d))) where
    abbrev y : Float
    y = fin false n d

    abbrev t : ℕ
    t = units_in y G tt

    units_y : HasValue y false t (2 ^ 1074)
    units_y = in_units y G tt refl

    on-grid : 2 ^ 52 * 2 ^ h.k ≤ t → (d : ℕ) × (t ≡ d * 2 ^ h.k)
    on-grid l = units_grid (field_of (to_bits binary64 y)) (digits_of (to_bits binary64 y)) h.k (digits_lt (to_bits binary64 y)) (le_trans (le_of_eq (pow-add 2 52 h.k)) l)

    mean_is : (num v * den y + num y * den v) * 2 ^ 1074 ≡ (size + t) * (den v * den y)
    mean_is = twice-mean (num v) (den v) (num y) (den y) size t (2 ^ 1074) (value→cross v size (2 ^ 1074) h.of_v) (value→cross y t (2 ^ 1074) units_y)

    pub over-plus : T (lt y v) → (num v * den y + num y * den v) * (num v * den y + num y * den v) * den x < num x * (2 * (den v * den y) * (2 * (den v * den y)))
    over-plus l = over-at (num v * den y + num y * den v) (den v * den y) t (mul-pos (den_pos v) (den_pos y)) mean_is on-grid (units_lt y v t size (2 ^ 1074) (pow_pos 1074) units_y h.of_v l)

    pub under-plus : T (lt v y) → num x * (2 * (den v * den y) * (2 * (den v * den y))) < (num v * den y + num y * den v) * (num v * den y + num y * den v) * den x
    under-plus l = under_at (num v * den y + num y * den v) (den v * den y) t (mul-pos (den_pos v) (den_pos y)) mean_is on-grid (units_lt v y size t (2 ^ 1074) (pow_pos 1074) h.of_v units_y l)

  -- a negative value: the root is above the mean of v and zero
  over_zero : num v * num v * den x < num x * (2 * den v * (2 * den v))
  over_zero =
      over-at (num v) (den v) 0 (den_pos v) (value→cross v size (2 ^ 1074) h.of_v ∙ ap (λ (z : ℕ). z * den v) (sym (add-zero size))) (λ l. (0, sym (zero-mul (2 ^ h.k))))
      (mul-pos (some-digits h.r h.m h.large h.half) (pow_pos h.k))

  pub over-minus : (y : Float) → (num v * den y - num y * den v) * (num v * den y - num y * den v) * den x < num x * (2 * (den v * den y) * (2 * (den v * den y)))
  over-minus y = half_above (num v) (den v) (num x) (den x) (num y) (den y) (den_pos y) over_zero

  pub under-minus : (n : ℕ) (d : ℤ) → T (lt v (fin true n d)) → ⊥
  under-minus n d l = not-less v n d root_positive l

-- ---- the root is held, and is far below the largest value
pub root-held : (x : Float) → T (positive x) → T (fits binary64 (sqrt binary64 x))
unfolding sqrt rounded_root
root-held nan p = absurd p
root-held (inf s) p = absurd p
root-held (fin true m e) p = absurd p
root-held (fin false zero e) p = absurd p
root-held (fin false (suc m) e) p = round-fits binary64 false _ _

pub in_reach : (x : Float) → T (fits binary64 x) → T (positive x) → num x * (1 * 1) < (2 ^ 54 - 1) * 2 ^ 970 * ((2 ^ 54 - 1) * 2 ^ 970) * den x
unfolding fits
in_reach nan F p = absurd p
in_reach (inf s) F p = absurd p
in_reach (fin true m e) F p = absurd p
in_reach (fin false zero e) F p = absurd p
in_reach (fin false (suc m) e) F p =
    let l : suc m * up e < 2 ^ 1024 * down e = ltb→lt (suc m * up e) (2 ^ 1024 * down e) (and_r (eqb (suc m % 2) 1 && ltb (suc m) (2 ^ 53) && leb (down e) (2 ^ 1074)) (ltb (suc m * up e) (2 ^ 1024 * down e)) F) in
    lt_of_le_of_lt (le_of_eq (mul-one (suc m * up e))) (lt_of_lt_of_le l (mul-le-mul_right (down e) (lit≤ tt)))

-- ---- two values that are not negative and of which neither is less are the same
pub clash : (a b c d x y : ℕ) → x * (2 * (b * d) * (2 * (b * d))) < (a * d + c * b) * (a * d + c * b) * y → (c * b + a * d) * (c * b + a * d) * y < x * (2 * (d * b) * (2 * (d * b))) → ⊥
clash a b c d x y h k = omega arith

pub by_size : (r s : Float) → T (fits binary64 r) → T (fits binary64 s) → T (finite r) → T (finite s) → negative r ≡ false → negative s ≡ false → (T (lt r s) → ⊥) → (T (lt s r) → ⊥) → r ≡ s
by_size r s F G N M p q h k =
    let a = units_in r F N in
    let b = units_in s G M in
    let u = in_units r F N p in
    let w = in_units s G M q in
    let le-ab : a ≤ b = le_of_suc-le-suc (lt_of_not-le (λ (g : suc b ≤ a). k (lt_units s r b a (2 ^ 1074) (pow_pos 1074) w u g))) in
    let le-ba : b ≤ a = le_of_suc-le-suc (lt_of_not-le (λ (g : suc a ≤ b). h (lt_units r s a b (2 ^ 1074) (pow_pos 1074) u w g))) in
    same-value r s false a F G u (subst (λ (z : ℕ). HasValue s false z (2 ^ 1074)) (le_antisymm le-ba le-ab) w)
