-- Means of numbers on the grid do not turn on the order of the terms (document 02, A.11): the sum is exact, and it is -0.0 only where every term is.
-- Assumes nothing.
use Rattle.std.specs.Prelude.{◌≡◌, refl, ◌⊎◌, true, false, ℕ, zero, suc, ◌+◌, ◌*◌, ◌/◌, ◌^◌, ◌≤◌, ◌<◌, List, [], ◌∷◌, length, Float}
use Rattle.std.proofs.Common.{sym, ap, ap₂, ◌∙◌, subst, inl, inr, true≢false, mul-pos, arith, lit<}
use Rattle.std.proofs.Math.Bool.{false≢true}
use Rattle.std.proofs.Math.Nat.{div-eq_of_lt}
use Rattle.std.specs.Float.{nan, inf, fin, binary64}
use Rattle.std.specs.Float.Ieee.{add, div, round, sum, up, down, of_bits}
use Rattle.std.specs.Float.Ieee.Exact.{HasValue}
use Rattle.std.specs.Float.Ieee.Fits.{down_pos, up_pos}
use Rattle.std.specs.Float.Ieee.Scale.{round_same}
use Rattle.lists.specs.Floats.{sum_from, add_commutes}
use Rattle.lists.specs.Elements.{All}
use Rattle.orbits.specs.Symmetric.{mean6}
use Rattle.fc4.specs.Mean24.{mean24}
use Rattle.grid.specs.Grid.{on_grid, steps_up, steps_down, Steps, Proper, grid-steps, grid-few}
use Rattle.grid.specs.ExactLaws.{of_steps, add-steps, more-steps, no_steps, steps-same, whole-steps}

-- ---- totals over a list

unfoldable pub total_of : (Float → ℕ) → List Float → ℕ
total_of f [] = 0
total_of f (x ∷ xs) = f x + total_of f xs

-- 0 for -0.0, 1 for every other number: a sum is -0.0 where that of all terms is 0
abbrev pub proper : Float → ℕ
proper nan = 1
proper (inf s) = 1
proper (fin false m e) = 1
proper (fin true zero e) = 0
proper (fin true (suc m) e) = 1

abbrev minus_zero : Float
minus_zero = round binary64 true 0 (2 ^ 20)

-- ---- sums that begin at 0.0

-- from a sum of p steps up and q down
from-steps : (xs : List Float) (p q k : ℕ) → All (λ x. on_grid x ≡ true) xs → p ≤ k * 2 ^ 40 → q ≤ k * 2 ^ 40 → k + length xs ≤ 1024
    → sum_from (of_steps p q) xs ≡ of_steps (p + total_of steps_up xs) (q + total_of steps_down xs)
unfolding total_of
from-steps [] p q k g a b h = steps-same p q (p + 0) (q + 0) (omega arith)
from-steps (x ∷ xs) p q k g a b h =
    let (c, d) = grid-few x g.0 in
    ap (λ s. sum_from s xs) (more-steps p q x (steps_up x) (steps_down x) (omega arith) (omega arith) (grid-steps x g.0))
    ∙ from-steps xs (p + steps_up x) (q + steps_down x) (suc k) g.1 (omega arith) (omega arith) (omega arith)
    ∙ steps-same (p + steps_up x + total_of steps_up xs) (q + steps_down x + total_of steps_down xs) (p + (steps_up x + total_of steps_up xs)) (q + (steps_down x + total_of steps_down xs)) (omega arith)

pub mean24-steps : (xs : List Float) → All (λ x. on_grid x ≡ true) xs → length xs ≤ 1024
    → mean24 xs ≡ div binary64 (of_steps (total_of steps_up xs) (total_of steps_down xs)) (of_bits binary64 0x4038_0000_0000_0000)
mean24-steps xs g h =
    ap (λ s. div binary64 (sum_from s xs) (of_bits binary64 0x4038_0000_0000_0000)) (sym no_steps)
    ∙ ap (λ s. div binary64 s (of_bits binary64 0x4038_0000_0000_0000))
    (from-steps xs 0 0 0 g (omega arith) (omega arith) (omega arith) ∙ steps-same (0 + total_of steps_up xs) (0 + total_of steps_down xs) (total_of steps_up xs) (total_of steps_down xs) (omega arith))

-- ---- sums that begin with the first term

-- a number on the grid is -0.0, or not
abbrev IsMinusZero : Float → Type 0
IsMinusZero x = HasValue x true 0 (2 ^ 20) × (steps_up x ≡ 0) × (steps_down x ≡ 0) × (proper x ≡ 0)

abbrev IsProper : Float → Type 0
IsProper x = Proper x (steps_up x) (steps_down x) × (proper x ≡ 1)

no-count : (m u g k d : ℕ) → 0 < u → 0 < g → suc m * u * g ≡ k * d → 0 < k
no-count m u g zero d hu hg e = let p : 0 < suc m = omega arith in absurd (omega (arith, mul-pos (mul-pos p hu) hg))
no-count m u g (suc k) d hu hg e = omega arith

nothing : (u g d : ℕ) → 0 * u * g ≡ 0 * d
nothing u g d = omega arith

none_down : (u d : ℕ) → 0 < d → 0 * u * 2 ^ 20 / d ≡ 0
none_down u d h = let e : 0 * u * 2 ^ 20 ≡ 0 = omega arith in rw e (div-eq_of_lt h)

by_sign : (x : Float) → on_grid x ≡ true → IsProper x ⊎ IsMinusZero x
by_sign nan g = absurd (no_nan g)
  where
    no_nan : on_grid nan ≡ true → ⊥
    no_nan g = unfold on_grid in false≢true g
by_sign (inf s) g = absurd (no_inf g)
  where
    no_inf : on_grid (inf s) ≡ true → ⊥
    no_inf g = unfold on_grid in false≢true g
by_sign (fin false m e) g = inl (up_proper (grid-steps (fin false m e) g), refl)
  where
    up_proper : Steps (fin false m e) (steps_up (fin false m e)) (steps_down (fin false m e)) → Proper (fin false m e) (steps_up (fin false m e)) (steps_down (fin false m e))
    up_proper (inl h) = inl h
    up_proper (inr h) = absurd (false≢true h.0.0)
by_sign (fin true zero e) g = inr ((refl, nothing (up e) (2 ^ 20) (down e)), refl, none_down (up e) (down e) (down_pos e), refl)
by_sign (fin true (suc m) e) g = inl (down_proper (grid-steps (fin true (suc m) e) g), refl)
  where
    down_proper : Steps (fin true (suc m) e) (steps_up (fin true (suc m) e)) (steps_down (fin true (suc m) e)) → Proper (fin true (suc m) e) (steps_up (fin true (suc m) e)) (steps_down (fin true (suc m) e))
    down_proper (inl h) = absurd (true≢false h.0.0)
    down_proper (inr h) = inr (h.0, h.1, no-count m (up e) (2 ^ 20) (steps_down (fin true (suc m) e)) (down e) (up_pos e) (lit< tt) h.0.1)

-- twice -0.0
both-minus : (x y : Float) → HasValue x true 0 (2 ^ 20) → HasValue y true 0 (2 ^ 20) → add binary64 x y ≡ minus_zero
unfolding add sum
both-minus nan y a b = absurd a
both-minus (inf s) y a b = absurd a
both-minus (fin s m e) nan a b = absurd b
both-minus (fin s m e) (inf t) a b = absurd b
both-minus (fin false m e) (fin t n d) a b = absurd (false≢true a.0)
both-minus (fin true m e) (fin false n d) a b = absurd (false≢true b.0)
both-minus (fin true m e) (fin true n d) a b =
    round_same binary64 true (m * up e * down d + n * up d * down e) (down e * down d) 0 (2 ^ 20) (mul-pos (down_pos e) (down_pos d)) (lit< tt)
    (zero-sum (m * up e) (down d) (n * up d) (down e) (2 ^ 20) a.1 b.1)
  where
    zero-sum : (u w v z g : ℕ) → u * g ≡ 0 * z → v * g ≡ 0 * w → (u * w + v * z) * g ≡ 0 * (z * w)
    zero-sum u w v z g p q = omega (arith, ap (λ k. k * w) p, ap (λ k. k * z) q)

-- a sum so far: p steps up and q down; z is 0 where every term was -0.0
Sum : Float → ℕ → ℕ → ℕ → Type 0
Sum s p q z = ((0 < z) × (s ≡ of_steps p q)) ⊎ ((z ≡ 0) × (p ≡ 0) × (q ≡ 0) × (s ≡ minus_zero))

minus-value : HasValue minus_zero true 0 (2 ^ 20)
minus-value = whole-steps true 0 (omega arith)

-- the first two terms
first_two_lem : (x y : Float) → on_grid x ≡ true → on_grid y ≡ true → Sum (add binary64 x y) (steps_up x + steps_up y) (steps_down x + steps_down y) (proper x + proper y)
unfolding Sum
first_two_lem x y g h = go (by_sign x g) (by_sign y h)
  where
    go : IsProper x ⊎ IsMinusZero x → IsProper y ⊎ IsMinusZero y
        → ((0 < proper x + proper y) × (add binary64 x y ≡ of_steps (steps_up x + steps_up y) (steps_down x + steps_down y)))
        ⊎ ((proper x + proper y ≡ 0) × (steps_up x + steps_up y ≡ 0) × (steps_down x + steps_down y ≡ 0) × (add binary64 x y ≡ minus_zero))
    go (inl p) q = let e = p.1 in inl (omega arith, add-steps x y (steps_up x) (steps_down x) (steps_up y) (steps_down y) p.0 (grid-steps y h))
    go (inr p) (inl q) =
        let e = q.1 in
        inl (
          omega arith,
          add_commutes binary64 x y ∙ add-steps y x (steps_up y) (steps_down y) (steps_up x) (steps_down x) q.0 (grid-steps x g)
              ∙ steps-same (steps_up y + steps_up x) (steps_down y + steps_down x) (steps_up x + steps_up y) (steps_down x + steps_down y) (omega arith),
        )
    go (inr p) (inr q) =
        let (a, b, c, d) = p in
        let (a', b', c', d') = q in
        inr (omega arith, omega arith, omega arith, both-minus x y a a')

-- one term more
next : (s x : Float) (p q z k : ℕ) → Sum s p q z → on_grid x ≡ true → p ≤ k * 2 ^ 40 → q ≤ k * 2 ^ 40 → k ≤ 1024 → Sum (add binary64 s x) (p + steps_up x) (q + steps_down x) (z + proper x)
unfolding Sum
next s x p q z k (inl (h, e)) g a b l =
    inl (omega arith, ap (λ s. add binary64 s x) e ∙ more-steps p q x (steps_up x) (steps_down x) (omega arith) (omega arith) (grid-steps x g))
next s x p q z k (inr (hz, hp, hq, e)) g a b l = go (by_sign x g)
  where
    go : IsProper x ⊎ IsMinusZero x
        → ((0 < z + proper x) × (add binary64 s x ≡ of_steps (p + steps_up x) (q + steps_down x)))
        ⊎ ((z + proper x ≡ 0) × (p + steps_up x ≡ 0) × (q + steps_down x ≡ 0) × (add binary64 s x ≡ minus_zero))
    go (inl t) =
        let u = t.1 in
        inl (
          omega arith,
          ap (λ s. add binary64 s x) e ∙ add_commutes binary64 minus_zero x
              ∙ add-steps x minus_zero (steps_up x) (steps_down x) 0 0 t.0 (inr (minus-value, refl))
              ∙ steps-same (steps_up x + 0) (steps_down x + 0) (p + steps_up x) (q + steps_down x) (omega arith),
        )
    go (inr t) = let (v, b, c, d) = t in inr (omega arith, omega arith, omega arith, ap (λ s. add binary64 s x) e ∙ both-minus minus_zero x minus-value v)

sums : (xs : List Float) (s : Float) (p q z k : ℕ) → Sum s p q z → All (λ x. on_grid x ≡ true) xs → p ≤ k * 2 ^ 40 → q ≤ k * 2 ^ 40 → k + length xs ≤ 1024
    → Sum (sum_from s xs) (p + total_of steps_up xs) (q + total_of steps_down xs) (z + total_of proper xs)
unfolding total_of
sums [] s p q z k S g a b h =
    let u : p ≡ p + 0 = omega arith in
    let v : q ≡ q + 0 = omega arith in
    let w : z ≡ z + 0 = omega arith in
    subst (λ w. Sum s (p + 0) (q + 0) w) w (subst (λ v. Sum s (p + 0) v z) v (subst (λ u. Sum s u q z) u S))
sums (x ∷ xs) s p q z k S g a b h =
    let (c, d) = grid-few x g.0 in
    let r = sums xs (add binary64 s x) (p + steps_up x) (q + steps_down x) (z + proper x) (suc k) (next s x p q z k S g.0 a b (omega arith)) g.1 (omega arith) (omega arith) (omega arith) in
    let u : p + steps_up x + total_of steps_up xs ≡ p + (steps_up x + total_of steps_up xs) = omega arith in
    let v : q + steps_down x + total_of steps_down xs ≡ q + (steps_down x + total_of steps_down xs) = omega arith in
    let w : z + proper x + total_of proper xs ≡ z + (proper x + total_of proper xs) = omega arith in
    subst (λ w. Sum (sum_from (add binary64 s x) xs) (p + (steps_up x + total_of steps_up xs)) (q + (steps_down x + total_of steps_down xs)) w) w
    (subst (λ v. Sum (sum_from (add binary64 s x) xs) (p + (steps_up x + total_of steps_up xs)) v (z + proper x + total_of proper xs)) v
    (subst (λ u. Sum (sum_from (add binary64 s x) xs) u (q + steps_down x + total_of steps_down xs) (z + proper x + total_of proper xs)) u r))

-- a list of two or more
sum_of : (x y : Float) (xs : List Float) → All (λ x. on_grid x ≡ true) (x ∷ y ∷ xs) → length xs ≤ 1022
    → Sum (sum_from x (y ∷ xs)) (steps_up x + steps_up y + total_of steps_up xs) (steps_down x + steps_down y + total_of steps_down xs) (proper x + proper y + total_of proper xs)
sum_of x y xs g h =
    let (a, b) = grid-few x g.0 in
    let (c, d) = grid-few y g.1.0 in
    sums xs (add binary64 x y) (steps_up x + steps_up y) (steps_down x + steps_down y) (proper x + proper y) 2 (first_two_lem x y g.0 g.1.0) g.1.1 (omega arith) (omega arith) (omega arith)

same_sum : (s t : Float) (p q z p' q' z' : ℕ) → Sum s p q z → Sum t p' q' z' → p ≡ p' → q ≡ q' → z ≡ z' → s ≡ t
unfolding Sum
same_sum s t p q z p' q' z' (inl (h, e)) (inl (g, f)) a b c = e ∙ ap₂ of_steps a b ∙ sym f
same_sum s t p q z p' q' z' (inl (h, e)) (inr (g, u, v, f)) a b c = absurd (omega arith)
same_sum s t p q z p' q' z' (inr (h, u, v, e)) (inl (g, f)) a b c = absurd (omega arith)
same_sum s t p q z p' q' z' (inr (h, u, v, e)) (inr (g, u', v', f)) a b c = e ∙ sym f

-- ---- THE MEANS TURN ON THE TOTALS ONLY

pub record SameTotals (xs ys : List Float) : Type 0 where
  pub ups : total_of steps_up xs ≡ total_of steps_up ys
  pub downs : total_of steps_down xs ≡ total_of steps_down ys
  pub propers : total_of proper xs ≡ total_of proper ys

pub mean24-same : (xs ys : List Float) → All (λ x. on_grid x ≡ true) xs → All (λ x. on_grid x ≡ true) ys → length xs ≤ 1024 → length ys ≤ 1024 → SameTotals xs ys → mean24 xs ≡ mean24 ys
mean24-same xs ys g h a b S =
    mean24-steps xs g a ∙ ap₂ (λ p q. div binary64 (of_steps p q) (of_bits binary64 0x4038_0000_0000_0000)) S.ups S.downs ∙ sym (mean24-steps ys h b)

pub mean6-same : (x y : Float) (xs : List Float) (z w : Float) (ys : List Float) → All (λ x. on_grid x ≡ true) (x ∷ y ∷ xs) → All (λ x. on_grid x ≡ true) (z ∷ w ∷ ys)
    → length xs ≤ 1022 → length ys ≤ 1022 → SameTotals (x ∷ y ∷ xs) (z ∷ w ∷ ys) → mean6 (x ∷ y ∷ xs) ≡ mean6 (z ∷ w ∷ ys)
unfolding total_of
mean6-same x y xs z w ys g h a b S =
    let u = S.ups in
    let v = S.downs in
    let t = S.propers in
    ap (λ s. div binary64 s (of_bits binary64 0x4018_0000_0000_0000))
    (same_sum (sum_from x (y ∷ xs)) (sum_from z (w ∷ ys)) _ _ _ _ _ _ (sum_of x y xs g a) (sum_of z w ys h b) (omega arith) (omega arith) (omega arith))
