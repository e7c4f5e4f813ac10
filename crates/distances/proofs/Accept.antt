-- The root keeps the order: if the rounded root of a limit is below the tolerance s, so is that of every x up to the limit. So x is accepted by the limit's root,
-- and never by the tolerance's square. Assumes nothing.
use mathlib.Core.Path.{◌≡◌, sym, ap, ◌∙◌, subst}
use mathlib.Core.Bool.{Bool, true, false, cond, false≢true}
use mathlib.Core.Logic.{◌⊎◌, inl, inr}
use Prim.Native.Nat.{ℕ, zero, suc, ◌+◌, ◌*◌, ◌/◌, ◌^◌, ◌≤◌, ◌<◌, zero-le}
use native.Mathlib.Nat.{le_trans, le_of_eq, le_refl, lt_of_le_of_lt, not-le_of_lt, zero-lt-suc, zero-mul, mul_right_comm, mul-pos, mul-le-mul, mul-le-mul_right, mul-lt-mul_of_pos_right, lt_of_mul-lt-mul_right, lt_of_lt_of_le, eq-or-lt_of_le}
use native.Mathlib.Omega.{arith}
use lib.IntN.{ℤ}
use lib.Dec.{T, eqb}
use lib.Pow.{pow_pos}
use lib.Ieee.{Float, nan, inf, fin, Format, low, up, down, lt, le}
use lib.Ieee.Fits.{up_pos, down_pos}
use lib.Ieee.Nearest.{div_mono}
use lib.Ieee.Order.{round_mono}
use lib.Ieee.Positive.{first_pos}
use borrow.Author.Tests.{ltb-true, lt-ltb, eq-eqb, ne_eqb}
use Rattle.lists.specs.Cases.{eq_or_ne, lt_or_le}
use Rattle.common.specs.Root.{root, rounded_root, sqrt}
use Rattle.common.proofs.RootLaws.{root_is}
use Rattle.distances.specs.Reach.{is_positive}
use Rattle.distances.proofs.Rounded.{le_cross, round_plus}

-- ---- natural numbers: the root's digits, with one more for what is left over

root_le : (a b : ℕ) → a * a < (b + 1) * (b + 1) → a ≤ b
root_le a b h = go (lt_or_le b a)
  where
    go : (b < a) ⊎ (a ≤ b) → a ≤ b
    go (inl g) = let k : b + 1 ≤ a = omega arith in absurd (not-le_of_lt h (mul-le-mul k k))
    go (inr g) = g

sticky : ℕ → ℕ
sticky n = 2 * root n + cond (eqb (root n * root n) n) 0 1

at_most_one : (b : Bool) → cond b 0 1 ≤ 1
at_most_one true = omega arith
at_most_one false = le_refl 1

sticky_mono : (n k : ℕ) → n ≤ k → sticky n ≤ sticky k
unfolding sticky
sticky_mono n k h = go (eq-or-lt_of_le (root_le (root n) (root k) (lt_of_le_of_lt (root_is n).0 (lt_of_le_of_lt h (root_is k).1))))
  where
    same : (r : ℕ) → r * r ≤ n → (r * r ≡ n) ⊎ (r * r ≡ n → ⊥) → 2 * r + cond (eqb (r * r) n) 0 1 ≤ 2 * r + cond (eqb (r * r) k) 0 1
    same r w (inl e) = rw (eq-eqb (r * r) n e) (omega arith)
    same r w (inr d) =
        let g : r * r ≡ k → ⊥ = λ q. d (omega arith) in
        rw (ne_eqb (r * r) n d, ne_eqb (r * r) k g) (le_refl (2 * r + 1))

    go : (root n ≡ root k) ⊎ (root n < root k) → 2 * root n + cond (eqb (root n * root n) n) 0 1 ≤ 2 * root k + cond (eqb (root k * root k) k) 0 1
    go (inl e) = subst (λ (z : ℕ). 2 * root n + cond (eqb (root n * root n) n) 0 1 ≤ 2 * z + cond (eqb (z * z) k) 0 1) e (same (root n) (root_is n).0 (eq_or_ne (root n * root n) n))
    go (inr l) = let c = at_most_one (eqb (root n * root n) n) in omega arith

-- ---- floats

-- u ≤ v < s
le_lt : (u v s : Float) → T (is_positive u) → T (is_positive v) → T (le u v) → lt v s ≡ true → lt u s ≡ true
unfolding le lt
le_lt nan v s U W h k = absurd h
le_lt (inf true) v s U W h k = absurd U
le_lt (inf false) nan s U W h k = absurd h
le_lt (inf false) (inf true) s U W h k = absurd W
le_lt (inf false) (inf false) s U W h k = k
le_lt (inf false) (fin t n d) s U W h k = absurd h
le_lt (fin true m e) v s U W h k = absurd U
le_lt (fin false m e) nan s U W h k = absurd h
le_lt (fin false m e) (inf true) s U W h k = absurd W
le_lt (fin false m e) (inf false) nan U W h k = k
le_lt (fin false m e) (inf false) (inf t) U W h k = absurd (false≢true k)
le_lt (fin false m e) (inf false) (fin t a b) U W h k = absurd (false≢true k)
le_lt (fin false m e) (fin true n d) s U W h k = absurd W
le_lt (fin false m e) (fin false n d) nan U W h k = k
le_lt (fin false m e) (fin false n d) (inf t) U W h k = k
le_lt (fin false m e) (fin false n d) (fin true a b) U W h k = k
le_lt (fin false m e) (fin false n d) (fin false a b) U W h k =
    lt-ltb (m * up e * down b) (a * up b * down e)
    (le_then_lt (m * up e) (n * up d) (a * up b) (down e) (down d) (down b) (down_pos d) (down_pos e) (le_cross (m * up e * down d) (n * up d * down e) h) (ltb-true (n * up d * down b) (a * up b * down d) k))
  where
    -- x / p ≤ y / q < z / r
    le_then_lt : (x y z p q r : ℕ) → 0 < q → 0 < p → x * q ≤ y * p → y * r < z * q → x * r < z * p
    le_then_lt x y z p q r Q P h k =
        lt_of_mul-lt-mul_right q
        (lt_of_le_of_lt (le_of_eq (mul_right_comm x r q))
        (lt_of_le_of_lt (mul-le-mul_right r h)
        (lt_of_le_of_lt (le_of_eq (mul_right_comm y p r))
        (lt_of_lt_of_le (mul-lt-mul_of_pos_right k P) (le_of_eq (mul_right_comm z q p))))))

module _ (f : Format) where
  pub sqrt-plus : (x : Float) → T (is_positive x) → T (is_positive (sqrt f x))
  unfolding sqrt rounded_root
  sqrt-plus nan p = tt
  sqrt-plus (inf true) p = absurd p
  sqrt-plus (inf false) p = tt
  sqrt-plus (fin true m e) p = absurd p
  sqrt-plus (fin false zero e) p = tt
  sqrt-plus (fin false (suc m) e) p = round_plus f _ _

  root_mono : (m : ℕ) (e : ℤ) (n : ℕ) (d : ℤ) → suc m * up e * down d ≤ suc n * up d * down e → T (le (sqrt f (fin false (suc m) e)) (sqrt f (fin false (suc n) d)))
  unfolding sqrt rounded_root sticky
  root_mono m e n d h =
      let F = 4 ^ suc (low f) in
      let K = 2 ^ suc (suc (low f)) in
      let a : suc m * up e * F * down d ≤ suc n * up d * F * down e =
      le_trans (le_of_eq (mul_right_comm (suc m * up e) F (down d))) (le_trans (mul-le-mul_right F h) (le_of_eq (mul_right_comm (suc n * up d) (down e) F))) in
      round_mono f _ K _ K (pow_pos (suc (suc (low f)))) (pow_pos (suc (suc (low f))))
      (mul-le-mul_right K (sticky_mono (suc m * up e * F / down e) (suc n * up d * F / down d) (div_mono (suc m * up e * F) (down e) (suc n * up d * F) (down d) (down_pos e) (down_pos d) a)))

  -- a zero is below whatever a root is below
  zero-below : (v s : Float) (e : ℤ) → T (is_positive v) → lt v s ≡ true → lt (fin false zero e) s ≡ true
  unfolding lt
  zero-below nan s e W k = absurd (false≢true k)
  zero-below (inf true) s e W k = absurd W
  zero-below (inf false) nan e W k = k
  zero-below (inf false) (inf t) e W k = absurd (false≢true k)
  zero-below (inf false) (fin t a b) e W k = absurd (false≢true k)
  zero-below (fin true n d) s e W k = absurd W
  zero-below (fin false n d) nan e W k = k
  zero-below (fin false n d) (inf t) e W k = k
  zero-below (fin false n d) (fin true a b) e W k = k
  zero-below (fin false n d) (fin false a b) e W k =
      lt-ltb (zero * up e * down b) (a * up b * down e)
      (lt_of_le_of_lt (le_of_eq (ap (λ (z : ℕ). z * down b) (zero-mul (up e)) ∙ zero-mul (down b)))
      (mul-pos (first_pos (a * up b) (down d) (lt_of_le_of_lt zero-le (ltb-true (n * up d * down b) (a * up b * down d) k))) (down_pos e)))

  below_nothing : (s : Float) → lt (inf false) s ≡ true → ⊥
  unfolding lt
  below_nothing nan k = false≢true k
  below_nothing (inf t) k = false≢true k
  below_nothing (fin t a b) k = false≢true k

  up_to : (s x lim : Float) → T (is_positive x) → T (is_positive lim) → T (le x lim) → lt (sqrt f lim) s ≡ true → lt (sqrt f x) s ≡ true
  up_to s nan lim X L h k = absurd (unfold le in h)
  up_to s (inf true) lim X L h k = absurd X
  up_to s (inf false) nan X L h k = absurd (unfold le in h)
  up_to s (inf false) (inf true) X L h k = absurd L
  up_to s (inf false) (inf false) X L h k = k
  up_to s (inf false) (fin t n d) X L h k = absurd (unfold le in h)
  up_to s (fin true m e) lim X L h k = absurd X
  up_to s (fin false zero e) lim X L h k = unfold sqrt in zero-below (sqrt f lim) s e (sqrt-plus lim L) k
  up_to s (fin false (suc m) e) nan X L h k = absurd (unfold le in h)
  up_to s (fin false (suc m) e) (inf true) X L h k = absurd L
  up_to s (fin false (suc m) e) (inf false) X L h k = absurd (below_nothing s (unfold sqrt in k))
  up_to s (fin false (suc m) e) (fin true n d) X L h k = absurd L
  up_to s (fin false (suc m) e) (fin false zero d) X L h k =
      absurd (not-le_of_lt (mul-pos (mul-pos (zero-lt-suc m) (up_pos e)) (down_pos d))
      (le_trans (le_cross (suc m * up e * down d) (zero * up d * down e) (unfold le in h)) (le_of_eq (ap (λ (z : ℕ). z * down e) (zero-mul (up d)) ∙ zero-mul (down e)))))
  up_to s (fin false (suc m) e) (fin false (suc n) d) X L h k =
      le_lt (sqrt f (fin false (suc m) e)) (sqrt f (fin false (suc n) d)) s (sqrt-plus (fin false (suc m) e) tt) (sqrt-plus (fin false (suc n) d) tt)
      (root_mono m e n d (le_cross (suc m * up e * down d) (suc n * up d * down e) (unfold le in h))) k

  -- the claim
  pub accept : (s x lim : Float) → T (is_positive x) → T (is_positive lim) → le x lim ≡ true → lt (sqrt f lim) s ≡ true → lt (sqrt f x) s ≡ true
  accept s x lim X L h k = up_to s x lim X L (subst T (sym h) tt) k
