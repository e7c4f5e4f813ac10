-- Where a distance is a number. The rests of the axis differences are NaN or at most 1 in size, so in rows of finite numbers no product is infinite and no sum is
-- NaN. Assumes nothing.
use mathlib.Core.Path.{◌≡◌, refl, sym, ap, ◌∙◌, subst}
use mathlib.Core.Bool.{Bool, true, false, not, ◌&&◌, cond, beq, true≢false, false≢true}
use mathlib.Core.List.{List}
use Prim.Native.Nat.{ℕ, zero, suc, ◌+◌, ◌-◌, ◌*◌, ◌/◌, ◌^◌, ◌≤◌, ◌<◌}
use native.Mathlib.Nat.{div-add-mod', mod-lt, mul_comm, mul-pos, mul-le-mul_right, le_of_mul-le-mul_right}
use native.Mathlib.Omega.{arith}
use lib.IntN.{ℤ, pos}
use lib.Dec.{T, ltb, lit<}
use lib.ListN.{get_or}
use lib.Ieee.{Float, nan, inf, fin, Format, binary64, prec, emax, low, up, down, of_bits, odd, units, round, sum, neg, add, sub, mul, div, lt, le, eq, ne, fits, is_nan, unlike}
use lib.Ieee.Compare.{differs_from_itself}
use lib.Ieee.Fits.{down_pos, round_is, sub-fits}
use lib.Ieee.Exact.{HasValue}
use lib.Ieee.Order.{round_mono}
use lib.Ieee.Scale.{finite}
use Rattle.common.specs.Whole.{nearest_whole}
use Rattle.common.specs.NearestWhole.{gap}
use Rattle.common.proofs.NearestWholeLaws.{whole_is_nearest}
use Rattle.common.specs.Root.{rounded_root, sqrt}
use Rattle.distances.specs.declared.Distance.TheVariants.{Near, Far, NoNumber}
use Rattle.distances.specs.Near.{wrapped, difference, dot, squares, classified}
use Rattle.distances.specs.Reach.{is_positive, Rest, Rests, Finite, Early, EarlyOf, everywhere, OnlyIf, Reaches}
use Rattle.distances.proofs.Rounded.{le_cross, own_round, round_plus, number, round_number}
use Rattle.distances.proofs.Sums.{mul-plus, add-plus}
use Rattle.distances.proofs.Squares.{zero-plus, sum-plus, first-row, too_long}

-- ---- what is told of a distance

pub told_none : (d s : Float) → is_nan d ≡ true → NoNumber ≡ classified d s
told_none d s h = rw h

pub told-far : (d s : Float) → is_nan d ≡ false → lt d s ≡ false → Far ≡ classified d s
told-far d s h g = rw (h, g)

pub told-near : (d s : Float) → lt d s ≡ true → Near ≡ classified d s
unfolding lt is_nan
told-near nan s g = absurd (false≢true g)
told-near (inf t) s g = sym (ap (λ b. cond b Near Far) g)
told-near (fin t m e) s g = sym (ap (λ b. cond b Near Far) g)

-- a number is not NaN
pub is_number : (x : Float) → T (number x) → is_nan x ≡ false
unfolding is_nan
is_number nan h = absurd h
is_number (inf s) h = refl
is_number (fin s m e) h = refl

-- what is above something is a number
pub above_number : (w x : Float) → lt w x ≡ true → T (number x)
unfolding lt
above_number nan nan h = absurd (false≢true h)
above_number (inf s) nan h = absurd (false≢true h)
above_number (fin s m e) nan h = absurd (false≢true h)
above_number w (inf t) h = tt
above_number w (fin t n d) h = tt

-- a number equals itself, and what does is a number
pub same_number : (x : Float) → ne x x ≡ false → T (number x)
unfolding ne eq
same_number nan h = absurd (true≢false h)
same_number (inf s) h = tt
same_number (fin s m e) h = tt

pub differs_none : (x : Float) → ne x x ≡ true → x ≡ nan
differs_none x h = differs_from_itself x (subst T (sym h) tt)

-- the root of a number without a minus sign is a number
pub root-number : (x : Float) → T (is_positive x) → T (number x) → T (number (sqrt binary64 x))
unfolding sqrt rounded_root
root-number nan p n = absurd n
root-number (inf true) p n = absurd p
root-number (inf false) p n = tt
root-number (fin true m e) p n = absurd p
root-number (fin false zero e) p n = tt
root-number (fin false (suc m) e) p n = round_number binary64 false _ _

-- ---- sums and products that are numbers

module _ (f : Format) where
  pub add_parts : (x y : Float) → T (number (add f x y)) → T (number x) × T (number y)
  unfolding add
  add_parts nan y h = absurd h
  add_parts (inf s) nan h = absurd h
  add_parts (inf s) (inf t) h = (tt, tt)
  add_parts (inf s) (fin t n d) h = (tt, tt)
  add_parts (fin s m e) nan h = absurd h
  add_parts (fin s m e) (inf t) h = (tt, tt)
  add_parts (fin s m e) (fin t n d) h = (tt, tt)

  pub mul-parts : (x y : Float) → T (number (mul f x y)) → T (number x) × T (number y)
  unfolding mul
  mul-parts nan y h = absurd h
  mul-parts (inf s) nan h = absurd h
  mul-parts (inf s) (inf t) h = (tt, tt)
  mul-parts (inf s) (fin t n d) h = (tt, tt)
  mul-parts (fin s m e) nan h = absurd h
  mul-parts (fin s m e) (inf t) h = (tt, tt)
  mul-parts (fin s m e) (fin t n d) h = (tt, tt)

  sum_number : (s : Bool) (a : ℕ) (t : Bool) (b c : ℕ) → T (number (sum f s a t b c))
  unfolding sum
  sum_number s a t b c = go (beq s t) (ltb a b)
    where
      go : (p q : Bool) → T (number (cond p (round f s (a + b) c) (cond q (round f t (b - a) c) (round f (s && ltb b a) (a - b) c))))
      go true q = round_number f s (a + b) c
      go false true = round_number f t (b - a) c
      go false false = round_number f (s && ltb b a) (a - b) c

  -- a number and a finite number
  add-number : (x y : Float) → T (number x) → T (finite y) → T (number (add f x y))
  unfolding add
  add-number nan y h g = absurd h
  add-number (inf s) nan h g = absurd g
  add-number (inf s) (inf t) h g = absurd g
  add-number (inf s) (fin t n d) h g = tt
  add-number (fin s m e) nan h g = absurd g
  add-number (fin s m e) (inf t) h g = absurd g
  add-number (fin s m e) (fin t n d) h g = sum_number s (m * up e * down d) t (n * up d * down e) (down e * down d)

  -- two numbers without a minus sign
  add_pluses : (x y : Float) → T (is_positive x) → T (is_positive y) → T (number x) → T (number y) → T (number (add f x y))
  unfolding add
  add_pluses nan y p q h g = absurd h
  add_pluses (inf true) y p q h g = absurd p
  add_pluses (inf false) nan p q h g = absurd g
  add_pluses (inf false) (inf true) p q h g = absurd q
  add_pluses (inf false) (inf false) p q h g = tt
  add_pluses (inf false) (fin t n d) p q h g = tt
  add_pluses (fin s m e) nan p q h g = absurd g
  add_pluses (fin s m e) (inf t) p q h g = tt
  add_pluses (fin s m e) (fin t n d) p q h g = sum_number s (m * up e * down d) t (n * up d * down e) (down e * down d)

  square-number : (x : Float) → T (number x) → T (number (mul f x x))
  unfolding mul
  square-number nan h = absurd h
  square-number (inf s) h = tt
  square-number (fin s m e) h = round_number f (unlike s s) _ _

-- ---- rounding and the sign: the size is the same

module _ (f : Format) where
  units_rest : (s : Bool) (q k : ℕ) → Rest (units f false q k) → Rest (units f s q k)
  unfolding units odd
  units_rest s q k = go (ltb (q * 2 ^ k) (2 ^ (low f + suc (emax f)))) q
    where
      go : (b : Bool) (q : ℕ) → Rest (cond b (odd (suc (prec f)) false q k (low f)) (inf false)) → Rest (cond b (odd (suc (prec f)) s q k (low f)) (inf s))
      go true zero h = h
      go true (suc q) h = h
      go false q h = h

  units_finite : (s : Bool) (q k : ℕ) → T (finite (units f false q k)) → T (finite (units f s q k))
  unfolding units odd
  units_finite s q k = go (ltb (q * 2 ^ k) (2 ^ (low f + suc (emax f)))) q
    where
      go : (b : Bool) (q : ℕ) → T (finite (cond b (odd (suc (prec f)) false q k (low f)) (inf false))) → T (finite (cond b (odd (suc (prec f)) s q k (low f)) (inf s)))
      go true zero h = tt
      go true (suc q) h = tt
      go false q h = h

  round_rest : (s : Bool) (a c : ℕ) → Rest (round f false a c) → Rest (round f s a c)
  round_rest s a c h = subst Rest (sym (round_is f s a c)) (units_rest s _ _ (subst Rest (round_is f false a c) h))

  round_finite : (s : Bool) (a c : ℕ) → T (finite (round f false a c)) → T (finite (round f s a c))
  round_finite s a c h =
      subst (λ x. T (finite x)) (sym (round_is f s a c)) (units_finite s _ _ (subst (λ x. T (finite x)) (round_is f false a c) h))

-- what is no more than a finite number is finite, both without a minus sign
no_more : (x y : Float) → T (number x) → T (is_positive x) → T (finite y) → T (le x y) → T (finite x)
unfolding le
no_more nan y n p g h = absurd n
no_more (inf true) y n p g h = absurd p
no_more (inf false) nan n p g h = absurd g
no_more (inf false) (inf t) n p g h = absurd g
no_more (inf false) (fin t m e) n p g h = absurd h
no_more (fin s m e) y n p g h = tt

-- ---- the rest of an axis difference

rest_le : (x r : Float) → T (is_positive x) → T (number x) → HasValue r false 1 1 → T (le x r) → Rest x
unfolding le
rest_le nan r p n v h = tt
rest_le (inf true) r p n v h = absurd p
rest_le (inf false) nan p n v h = absurd v
rest_le (inf false) (inf t) p n v h = absurd v
rest_le (inf false) (fin t k g) p n v h = absurd h
rest_le (fin true m e) r p n v h = absurd p
rest_le (fin false m e) nan p n v h = absurd v
rest_le (fin false m e) (inf t) p n v h = absurd v
rest_le (fin false m e) (fin true k g) p n v h = absurd (true≢false v.0)
rest_le (fin false m e) (fin false k g) p n v h =
    let l : m * up e * down g ≤ k * up g * down e = le_cross (m * up e * down g) (k * up g * down e) h in
    let w : k * up g * 1 ≡ 1 * down g = v.1 in
    let u : k * up g * down e ≡ down e * down g = ap (λ (z : ℕ). z * down e) (one_less (k * up g) (down g) w) ∙ mul_comm (down g) (down e) in
    le_of_mul-le-mul_right {m = m * up e} {n = down e} {k = down g} (subst (λ (z : ℕ). m * up e * down g ≤ z) u l) (down_pos g)
  where
    one_less : (a b : ℕ) → a * 1 ≡ 1 * b → a ≡ b
    one_less a b h = omega arith

one_value : HasValue (round binary64 false 1 1) false 1 1
unfolding fits
one_value = own_round binary64 false 1 (pos 0) tt

-- a fraction that is at most 1 rounds to at most 1
small_rest : (s : Bool) (a c : ℕ) → 0 < c → a ≤ c → Rest (round binary64 s a c)
small_rest s a c C h =
    round_rest binary64 s a c
    (rest_le (round binary64 false a c) (round binary64 false 1 1) (round_plus binary64 a c) (round_number binary64 false a c) one_value
    (round_mono binary64 a c 1 1 C (lit< tt) (omega arith)))

sum_rest : (s t : Bool) (a b c : ℕ) → beq s t ≡ false → 0 < c → a - b ≤ c → b - a ≤ c → Rest (sum binary64 s a t b c)
unfolding sum
sum_rest s t a b c e C h g = subst (λ (p : Bool). Rest (cond p (round binary64 s (a + b) c) (cond (ltb a b) (round binary64 t (b - a) c) (round binary64 (s && ltb b a) (a - b) c)))) (sym e) (go (ltb a b))
  where
    go : (q : Bool) → Rest (cond q (round binary64 t (b - a) c) (round binary64 (s && ltb b a) (a - b) c))
    go true = small_rest t (b - a) c C g
    go false = small_rest (s && ltb b a) (a - b) c C h

-- M / E less the whole number S, in units of 1 / (E D)
near-whole : (M S E D A : ℕ) → 0 < E → gap M (S * E) ≤ gap M (M / E * E) → A ≡ S * D → (M * D - A * E ≤ E * D) × (A * E - M * D ≤ E * D)
near-whole M S E D A P h e =
    let q = div-add-mod' M E in
    let r = mod-lt M P in
    let u : M ≤ E + S * E = omega arith in
    let v : S * E ≤ E + M = omega arith in
    let x : M * D ≤ (E + S * E) * D = mul-le-mul_right D u in
    let y : S * E * D ≤ (E + M) * D = mul-le-mul_right D v in
    let z : A * E ≡ S * D * E = ap (λ (k : ℕ). k * E) e in
    (omega arith, omega arith)

opposite : (s : Bool) → beq s (not s) ≡ false
opposite true = refl
opposite false = refl

-- a finite d less a whole number with its sign
less-whole : (s : Bool) (m : ℕ) (e : ℤ) (r : Float) (k : ℕ) → gap (m * up e) (k * down e) ≤ gap (m * up e) (m * up e / down e * down e) → HasValue r s k 1
    → Rest (sub binary64 (fin s m e) r)
unfolding sub add neg
less-whole s m e nan k h v = absurd v
less-whole s m e (inf t) k h v = absurd v
less-whole s m e (fin t n d) k h v =
    let A : n * up d ≡ k * down d = one_more (n * up d) (k * down d) v.1 in
    let (x, y) = near-whole (m * up e) k (down e) (down d) (n * up d) (down_pos e) h A in
    sum_rest s (not t) (m * up e * down d) (n * up d * down e) (down e * down d) (ap (λ (b : Bool). beq s (not b)) v.0 ∙ opposite s) (mul-pos (down_pos e) (down_pos d)) x y
  where
    one_more : (a b : ℕ) → a * 1 ≡ b → a ≡ b
    one_more a b h = omega arith

rest_of : (d : Float) → T (fits binary64 d) → Rest (sub binary64 d (nearest_whole d))
rest_of nan F = unfold sub add in tt
rest_of (inf true) F = unfold nearest_whole sub add neg in tt
rest_of (inf false) F = unfold nearest_whole sub add neg in tt
rest_of (fin s m e) F =
    let N = whole_is_nearest (fin s m e) F tt in
    less-whole s m e (nearest_whole (fin s m e)) N.size (N.closest.nearest (m * up e / down e)) N.whole

pub wrapped_rest : (a b : Float) → Rest (wrapped a b)
wrapped_rest a b = rest_of (sub binary64 a b) (sub-fits binary64 a b)

-- along an axis that repeats
difference_rest : (b : Bool) (x y : Float) → b ≡ true → Rest (difference b x y)
difference_rest b x y e = rw e (wrapped_rest x y)

-- each of the three repeats
each_repeats : (a b c : Bool) → (a && (b && c)) ≡ true → (a ≡ true) × (b ≡ true) × (c ≡ true)
each_repeats true true true e = (refl, refl, refl)
each_repeats true true false e = absurd (false≢true e)
each_repeats true false c e = absurd (false≢true e)
each_repeats false b c e = absurd (false≢true e)

-- the three differences of a cell that repeats along all axes
pub rests_of : (f : List Bool) (x y z a b c d g h : Float) → x ≡ difference (get_or f 0 false) a b → y ≡ difference (get_or f 1 false) c d → z ≡ difference (get_or f 2 false) g h
    → everywhere f ≡ true → Rest x × Rest y × Rest z
rests_of f x y z a b c d g h X Y Z e =
    let (p, q, r) = each_repeats (get_or f 0 false) (get_or f 1 false) (get_or f 2 false) e in
    (subst Rest (sym X) (difference_rest (get_or f 0 false) a b p), subst Rest (sym Y) (difference_rest (get_or f 1 false) c d q), subst Rest (sym Z) (difference_rest (get_or f 2 false) g h r))

-- ---- rows of finite numbers

-- a finite number times a rest that is a number
product_finite : (l x : Float) → Finite l → Rest x → T (number x) → T (finite (mul binary64 l x))
unfolding mul fits
product_finite nan x (F, p) r n = absurd p
product_finite (inf s) x (F, p) r n = absurd p
product_finite (fin s m e) nan P r n = absurd n
product_finite (fin s m e) (inf t) P r n = absurd r
product_finite (fin s m e) (fin t n d) (F, p) r _ =
    round_finite binary64 (unlike s t) (m * up e * (n * up d)) (down e * down d)
    (no_more (round binary64 false (m * up e * (n * up d)) (down e * down d)) (round binary64 false (m * up e) (down e))
    (round_number binary64 false (m * up e * (n * up d)) (down e * down d)) (round_plus binary64 (m * up e * (n * up d)) (down e * down d)) (is_finite (round binary64 false (m * up e) (down e)) (own_round binary64 false m e (unsigned m F)))
    (round_mono binary64 (m * up e * (n * up d)) (down e * down d) (m * up e) (down e) (mul-pos (down_pos e) (down_pos d)) (down_pos e) less))
  where
    unsigned : (m : ℕ) → T (fits binary64 (fin s m e)) → T (fits binary64 (fin false m e))
    unsigned zero F = F
    unsigned (suc m) F = F

    is_finite : (r : Float) → HasValue r false (m * up e) (down e) → T (finite r)
    is_finite nan v = absurd v
    is_finite (inf b) v = absurd v
    is_finite (fin b k g) v = tt

    shrunk : (M N E D : ℕ) → N ≤ D → M * N * E ≤ M * (E * D)
    shrunk M N E D h = let g : N * (M * E) ≤ D * (M * E) = mul-le-mul_right (M * E) h in omega arith

    less : m * up e * (n * up d) * down e ≤ m * up e * (down e * down d)
    less = shrunk (m * up e) (n * up d) (down e) (down d) r

zero_number : T (number (of_bits binary64 0))
unfolding of_bits
zero_number = tt

module _ (x y z : Float) (X : Rest x) (Y : Rest y) (Z : Rest z) where
  -- where one row is a number, so are the rests
  rests : (a b c : Float) → T (number (dot a b c x y z)) → T (number x) × T (number y) × T (number z)
  rests a b c h =
      let (h2, hz) = add_parts binary64 _ (mul binary64 c z) h in
      let (h1, hy) = add_parts binary64 _ (mul binary64 b y) h2 in
      let (h0, hx) = add_parts binary64 _ (mul binary64 a x) h1 in
      ((mul-parts binary64 a x hx).1, (mul-parts binary64 b y hy).1, (mul-parts binary64 c z hz).1)

  row_number : (a b c : Float) → Finite a × Finite b × Finite c → T (number x) × T (number y) × T (number z) → T (number (dot a b c x y z))
  row_number a b c (A, B, C) (hx, hy, hz) =
      add-number binary64 _ _ (add-number binary64 _ _ (add-number binary64 _ _ zero_number (product_finite a x A X hx)) (product_finite b y B Y hy)) (product_finite c z C Z hz)

  -- the first row's square is above `early`: the whole sum is a number
  pub first-decides : (a b c p q r s t u : Float) → (Finite p × Finite q × Finite r) × (Finite s × Finite t × Finite u)
      → (w : Float) → lt w (add binary64 (of_bits binary64 0) (mul binary64 (dot a b c x y z) (dot a b c x y z))) ≡ true
      → T (number (dot (dot a b c x y z) (dot p q r x y z) (dot s t u x y z) (dot a b c x y z) (dot p q r x y z) (dot s t u x y z)))
  first-decides a b c p q r s t u (P, S) w h =
      let A = dot a b c x y z in
      let B = dot p q r x y z in
      let C = dot s t u x y z in
      let n1 = above_number w _ h in
      let nA = (mul-parts binary64 A A (add_parts binary64 _ (mul binary64 A A) n1).1).0 in
      let ns = rests a b c nA in
      let p1 = add-plus binary64 (of_bits binary64 0) (mul binary64 A A) zero-plus (mul-plus binary64 A) in
      let n2 = add_pluses binary64 _ (mul binary64 B B) p1 (mul-plus binary64 B) n1 (square-number binary64 B (row_number p q r P ns)) in
      let p2 = add-plus binary64 _ (mul binary64 B B) p1 (mul-plus binary64 B) in
      add_pluses binary64 _ (mul binary64 C C) p2 (mul-plus binary64 C) n2 (square-number binary64 C (row_number s t u S ns))

-- ---- how `early` is chosen

-- only a finite number times 0.0 is a number
times_zero : (x : Float) → T (number (mul binary64 x (of_bits binary64 0))) → T (finite x)
unfolding mul of_bits
times_zero nan h = absurd h
times_zero (inf s) h = absurd h
times_zero (fin s m e) h = tt

equal_number : (x y : Float) → eq x y ≡ true → T (number x)
unfolding eq
equal_number nan y h = absurd (false≢true h)
equal_number (inf s) y h = tt
equal_number (fin s m e) y h = tt

module _ (square p q r s t u : Float) (fp : T (fits binary64 p)) (fq : T (fits binary64 q)) (fr : T (fits binary64 r)) (fs : T (fits binary64 s)) (ft : T (fits binary64 t)) (fu : T (fits binary64 u)) where
  abbrev by0 : Float → Float
  by0 x = mul binary64 x (of_bits binary64 0)

  pub all_finite : (y : Float) → eq (add binary64 (add binary64 (add binary64 (add binary64 (add binary64 (by0 p) (by0 q)) (by0 r)) (by0 s)) (by0 t)) (by0 u)) y ≡ true
      → Early square square p q r s t u
  all_finite y h =
      let (h5, nu) = add_parts binary64 _ (by0 u) (equal_number _ y h) in
      let (h4, nt) = add_parts binary64 _ (by0 t) h5 in
      let (h3, ns) = add_parts binary64 _ (by0 s) h4 in
      let (h2, nr) = add_parts binary64 _ (by0 r) h3 in
      let (np, nq) = add_parts binary64 (by0 p) (by0 q) h2 in
      record {
        decides = λ x _. (refl, ((fp, times_zero p np), (fq, times_zero q nq), (fr, times_zero r nr)), ((fs, times_zero s ns), (ft, times_zero t nt), (fu, times_zero u nu)));
      }

nan_below : (x : Float) → lt nan x ≡ true → ⊥
unfolding lt
nan_below x h = false≢true h

pub never_early : (square p q r s t u : Float) → Early square (div binary64 (of_bits binary64 0) (of_bits binary64 0)) p q r s t u
unfolding div of_bits
never_early square p q r s t u = record { decides = λ x h. absurd (nan_below x h) }

pub never_only : (repeats : Bool) → OnlyIf repeats (div binary64 (of_bits binary64 0) (of_bits binary64 0))
unfolding div of_bits
never_only repeats = λ x h. absurd (nan_below x h)

-- a number by a test, or 0.0 / 0.0, which is NaN
pub if_so : {e : Float} (b : Bool) (x : Float) → b ≡ true → e ≡ x → e ≡ cond b x nan
if_so b x h g = g ∙ sym (ap (λ b. cond b x nan) h)

pub if_not : (b : Bool) (x : Float) → b ≡ false → div binary64 (of_bits binary64 0) (of_bits binary64 0) ≡ cond b x nan
unfolding div of_bits
if_not b x h = sym (ap (λ b. cond b x nan) h)

-- ---- what the squares tell

-- NaN has the root NaN
pub root_none : (x : Float) → ne x x ≡ true → is_nan (sqrt binary64 x) ≡ true
unfolding sqrt is_nan
root_none x h = ap (λ (y : Float). is_nan (sqrt binary64 y)) (differs_none x h)

module _ (s square sure : Float) (S : T (fits binary64 s)) (R : Reaches s square sure) where
  pub squares-far : (x : Float) → T (fits binary64 x) → T (is_positive x) → lt square x ≡ true → Far ≡ classified (sqrt binary64 x) s
  squares-far x X p h = told-far (sqrt binary64 x) s (is_number _ (root-number x p (above_number square x h))) (too_long s square sure S R x X h)

  pub root-far : (x y : Float) → T (is_positive x) → ne x x ≡ false → y ≡ sqrt binary64 x → lt y s ≡ false → Far ≡ classified (sqrt binary64 x) s
  root-far x y p n e h = told-far (sqrt binary64 x) s (is_number _ (root-number x p (same_number x n))) (ap (λ (z : Float). lt z s) (sym e) ∙ h)

  sum-number_of : (l : List Float) (x y z : Float) → Rest x → Rest y → Rest z → (early : Float) → EarlyOf l square early
      → lt early (add binary64 (of_bits binary64 0) (mul binary64 (dot (get_or l 0 nan) (get_or l 1 nan) (get_or l 2 nan) x y z) (dot (get_or l 0 nan) (get_or l 1 nan) (get_or l 2 nan) x y z))) ≡ true
      → T (is_positive (squares l x y z)) × T (number (squares l x y z))
  unfolding squares
  sum-number_of l x y z X Y Z early E h = (sum-plus _ _ _, first-decides x y z X Y Z _ _ _ _ _ _ _ _ _ ((E.decides _ h).1, (E.decides _ h).2) early h)

  -- the first row alone is too long
  pub first-far : (l : List Float) (x y z a early : Float) → EarlyOf l square early → Rests early x y z → a ≡ dot (get_or l 0 nan) (get_or l 1 nan) (get_or l 2 nan) x y z
      → lt early (add binary64 (of_bits binary64 0) (mul binary64 a a)) ≡ true → Far ≡ classified (sqrt binary64 (squares l x y z)) s
  first-far l x y z a early E R' e h =
      let q = (E.decides _ h).0 in
      let (X, Y, Z) = R' _ h in
      let g : lt square (add binary64 (of_bits binary64 0) (mul binary64 a a)) ≡ true = subst (λ (w : Float). lt w (add binary64 (of_bits binary64 0) (mul binary64 a a)) ≡ true) q h in
      let (p, n) = sum-number_of l x y z X Y Z early E (subst (λ (v : Float). lt early (add binary64 (of_bits binary64 0) (mul binary64 v v)) ≡ true) e h) in
      told-far (sqrt binary64 (squares l x y z)) s (is_number _ (root-number _ p n)) (first-row s square sure S R l x y z a e g)

-- the same of numbers that are equal
pub early_moved : (l : List Float) (q r e f : Float) → r ≡ q → f ≡ e → EarlyOf l q e → EarlyOf l r f
early_moved l q r e f h g E = subst (λ (x : Float). EarlyOf l x f) (sym h) (subst (λ (y : Float). EarlyOf l q y) (sym g) E)

pub only_moved : (a b : Bool) (e f : Float) → a ≡ b → f ≡ e → OnlyIf a e → OnlyIf b f
only_moved a b e f h g O = subst (λ (c : Bool). OnlyIf c f) h (subst (λ (y : Float). OnlyIf a y) (sym g) O)
