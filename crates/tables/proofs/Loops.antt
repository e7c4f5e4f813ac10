-- Loops that test the numbers below a count one after another, or by fours: what they answer.
-- Assumes nothing.
use mathlib.Core.Path.{◌≡◌, sym, ap, subst, ◌∙◌}
use mathlib.Core.Bool.{Bool, true, false, not, ◌&&◌}
use mathlib.Core.Logic.{◌⊎◌, inl, inr}
use mathlib.Core.List.{List}
use Prim.Native.Nat.{ℕ, zero, suc, ◌+◌, ◌-◌, ◌≤◌, ◌<◌}
use native.Mathlib.Omega.{arith}
use lib.IntN.{ℤ, pos}
use lib.ListN.{length, get_or}
use borrow.Author.Tests.{not-true, not-false}
use Rattle.lists.specs.Tests.{every, some, every-at, every_of, some_at, some_of, refuted, same_test, not-both, and_fst, and_snd, both}
use Rattle.lists.specs.Cases.{lt_or_le}
use Rattle.tables.specs.Conditions.{Tells, below, out_of_range, below_at, none_out}

module _ (n : ℕ) (f : ℕ → Bool) where
  pub all-passed : ((k : ℕ) → k < n → f k ≡ true) → true ≡ every n f
  all-passed h = sym (every_of n f h)

  pub one_failed : (k : ℕ) → k < n → f k ≡ false → false ≡ every n f
  one_failed k h e = sym (refuted (every n f) (λ p. not-both (every-at n f p k h) e))

  pub one-passed : (k : ℕ) → k < n → f k ≡ true → true ≡ some n f
  one-passed k h e = sym (some_of n f k h e)

  pub all_failed : ((k : ℕ) → k < n → f k ≡ false) → false ≡ some n f
  all_failed h = sym (refuted (some n f) (λ p. let (k, b, e) = some_at n f p in not-both e (h k b)))

-- a test that the code negates
pub told-no : {r b : Bool} → r ≡ b → not r ≡ true → b ≡ false
told-no {r} e h = sym e ∙ not-true r h

pub told_yes : {r b : Bool} → r ≡ b → not r ≡ false → b ≡ true
told_yes {r} e h = sym e ∙ not-false r h

-- ---- four at a time

module _ (P : ℕ → Type 0) (a : ℕ) where
  each_of_four : P a → P (a + 1) → P (a + 2) → P (a + 3) → (k : ℕ) → k < 4 → P (a + k)
  each_of_four p q r s zero h = let e : a ≡ a + 0 = omega arith in subst P e p
  each_of_four p q r s (suc zero) h = q
  each_of_four p q r s (suc (suc zero)) h = r
  each_of_four p q r s (suc (suc (suc zero))) h = s
  each_of_four p q r s (suc (suc (suc (suc k)))) h = absurd (omega arith)

  pub four_tell : (p q r s : Bool) → Tells p (P a) → Tells q (P (a + 1)) → Tells r (P (a + 2)) → Tells s (P (a + 3))
      → Tells (((p && q) && r) && s) ((k : ℕ) → k < 4 → P (a + k))
  four_tell p q r s tp tq tr ts = (
    λ e.
        let f = and_fst ((p && q) && r) s e in
        let g = and_fst (p && q) r f in
        each_of_four (tp.0 (and_fst p q g)) (tq.0 (and_snd p q g)) (tr.0 (and_snd (p && q) r f)) (ts.0 (and_snd ((p && q) && r) s e)),
    λ h.
        let e : a + 0 ≡ a = omega arith in
        both ((p && q) && r) s
        (both (p && q) r (both p q (tp.1 (subst P e (h 0 (omega arith)))) (tq.1 (h 1 (omega arith)))) (tr.1 (h 2 (omega arith))))
        (ts.1 (h 3 (omega arith))),
  )

  pub four-more : ((k : ℕ) → k < a → P k) → ((k : ℕ) → k < 4 → P (a + k)) → (k : ℕ) → k < a + 4 → P k
  four-more f g k h = go (lt_or_le k a)
    where
      go : (k < a) ⊎ (a ≤ k) → P k
      go (inl l) = f k l
      go (inr l) = let e : a + (k - a) ≡ k = omega arith in subst P e (g (k - a) (omega arith))

  -- what holds below a, and from a on
  pub all_of_lem : (n : ℕ) → ((k : ℕ) → k < a → P k) → ((k : ℕ) → a ≤ k → k < n → P k) → (k : ℕ) → k < n → P k
  all_of_lem n f g k h = go (lt_or_le k a)
    where
      go : (k < a) ⊎ (a ≤ k) → P k
      go (inl l) = f k l
      go (inr l) = g k l h

-- ---- a table whose entries are tested

pub told_range : (n : ℕ) (t : List ℤ) (r : Bool) → Tells r ((k : ℕ) → k < length t → below n (get_or t k (pos 0)) ≡ true) → r ≡ not (out_of_range n t)
told_range n t r h =
    same_test r (not (out_of_range n t)) (λ e. ap not (none_out n t (h.0 e))) (λ e. h.1 (below_at n t (not-true (out_of_range n t) e)))
