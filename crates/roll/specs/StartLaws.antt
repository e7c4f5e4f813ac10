-- Where the records of a roll start, and what the check's two loops tell by their marks. Assumes nothing.
use Rattle.std.proofs.Math.Path.{◌≡◌, refl, sym, ap}
use Rattle.std.proofs.Common.{◌∙◌, inl, inr, not-suc-le-zero, le_refl}
use Rattle.std.specs.Prelude.{Bool, ◌&&◌, ◌⊎◌, List, leb, length, set, replicate}
use Rattle.std.proofs.Math.Bool.{true, false, not, cond}
use Prim.Native.Nat.{ℕ, zero, suc, ◌+◌, ◌*◌, ◌≤◌, ◌<◌}
use Rattle.std.proofs.Math.Numerals.{add-one}
use native.Mathlib.Omega.{arith}
use Rattle.std.proofs.Math.Dec.{eqb}
use Rattle.std.proofs.Math.ListN.{get_or, length-set, length-replicate, get_or-replicate, get_or-eq_default}
use Rattle.std.proofs.Math.Seq.{get_or-set_same, get_or-set_other}
use borrow.Author.Tests.{not-true, not-false, leb-true, leb-false, eq-eqb, ne_eqb, eqb-true, le-leb, lt-leb}
use Rattle.lists.specs.Tests.{every, some, every-at, every_of, some_at, some_of, refuted, not-both, split, and_fst, and_snd, or-none, or_true, and_false}
use Rattle.lists.specs.Cases.{lt_or_le, eq_or_ne}
use Rattle.roll.specs.Format.{record_ruled}
use Rattle.roll.specs.Reading.{four_at, record_start, size_at, ruled_at, follow, is_start, listed, listed_once, count_of, trailer_at}
use Rattle.roll.specs.Roll.{Marked}

-- a test that the code negates
pub told-no : {r b : Bool} → r ≡ b → not r ≡ true → b ≡ false
told-no {r} e h = sym e ∙ not-true r h

pub told_yes : {r b : Bool} → r ≡ b → not r ≡ false → b ≡ true
told_yes {r} e h = sym e ∙ not-false r h

-- a loop that tests the numbers below a count
module _ (n : ℕ) (f : ℕ → Bool) where
  pub all-passed : ((k : ℕ) → k < n → f k ≡ true) → true ≡ every n f
  all-passed h = sym (every_of n f h)

  pub one_failed : (k : ℕ) → k < n → f k ≡ false → false ≡ every n f
  one_failed k h e = sym (refuted (every n f) (λ p. not-both (every-at n f p k h) e))

  pub one-passed : (k : ℕ) → k < n → f k ≡ true → true ≡ some n f
  one-passed k h e = sym (some_of n f k h e)

  pub all_failed : ((k : ℕ) → k < n → f k ≡ false) → false ≡ some n f
  all_failed h = sym (refuted (some n f) (λ p. let (k, b, e) = some_at n f p in not-both e (h k b)))

module _ (b : List ℕ) where
  pub start_first : 0 ≡ record_start b 0
  unfolding record_start
  start_first = refl

  pub start-next : (i : ℕ) → record_start b (i + 1) ≡ record_start b i + size_at b (record_start b i)
  unfolding record_start
  start-next i = rw (add-one i)

  pub size_least : (at : ℕ) → 10 ≤ size_at b at
  unfolding size_at
  size_least at = omega arith

  -- the code's next position
  pub next_start : (i at p : ℕ) → at ≡ record_start b i → p ≡ at + size_at b at → p ≡ record_start b (i + 1)
  next_start i at p e g = g ∙ ap (λ x. x + size_at b x) e ∙ sym (start-next i)

  -- a record ends at or before each later start
  pub ends-before : (i n : ℕ) → i < n → record_start b i + size_at b (record_start b i) ≤ record_start b n
  unfolding record_start
  ends-before i zero h = absurd (not-suc-le-zero h)
  ends-before i (suc n) h = go (eq_or_ne i n) (ends-before i n)
    where
      go : (i ≡ n) ⊎ (i ≡ n → ⊥) → (i < n → record_start b i + size_at b (record_start b i) ≤ record_start b n) → record_start b i + size_at b (record_start b i) ≤ record_start b n + size_at b (record_start b n)
      go (inl e) r = rw e (le_refl (record_start b n + size_at b (record_start b n)))
      go (inr d) r = let l = r (omega arith) in omega arith

  -- the head of a record stands before each later start
  pub head-before : (i n : ℕ) → i < n → record_start b i + 10 ≤ record_start b n
  head-before i n h = omega (arith, ends-before i n h, size_least (record_start b i))

  -- later records start later
  pub start-apart : (i j : ℕ) → record_start b i ≡ record_start b j → i ≡ j
  start-apart i j e = go (lt_or_le i j) (lt_or_le j i)
    where
      go : (i < j) ⊎ (j ≤ i) → (j < i) ⊎ (i ≤ j) → i ≡ j
      go (inl h) r = absurd (omega (arith, head-before i j h))
      go (inr h) (inl g) = absurd (omega (arith, head-before j i g))
      go (inr h) (inr g) = omega arith

  -- ---- one record: what the code's tests say

  module _ (at t : ℕ) where
    pub head_cut : t < at + 10 → false ≡ (leb (at + size_at b at) t && ruled_at b at)
    unfolding size_at
    head_cut h = rw (lt-leb (at + (10 + get_or b (at + 9) 0)) t (omega arith)) refl

    pub label_cut : (p : ℕ) → p ≡ at + size_at b at → t < p → false ≡ (leb (at + size_at b at) t && ruled_at b at)
    label_cut p e h = rw (lt-leb (at + size_at b at) t (omega arith)) refl

    pub not_cut : (p k x y : ℕ) (r : Bool) → p ≡ at + size_at b at → p ≤ t → k ≡ get_or b at 0 → x ≡ four_at b (at + 1) → y ≡ four_at b (at + 5)
        → r ≡ record_ruled k x y → r ≡ (leb (at + size_at b at) t && ruled_at b at)
    unfolding ruled_at
    not_cut p k x y r e h f q s g = rw (le-leb (at + size_at b at) t (omega arith)) (rw (← f, ← q, ← s) g)

    pub fit_says : (leb (at + size_at b at) t && ruled_at b at) ≡ true → (at + 10 ≤ t) × (at + size_at b at ≤ t) × (ruled_at b at ≡ true)
    fit_says e =
        let h : at + size_at b at ≤ t = leb-true (at + size_at b at) t (and_fst (leb (at + size_at b at) t) (ruled_at b at) e) in
        (omega (arith, size_least at), h, and_snd (leb (at + size_at b at) t) (ruled_at b at) e)

  -- ---- the first loop: records that follow each other

  module _ (n t i : ℕ) (h : i < n) where
    too_long : t < record_start b i + size_at b (record_start b i) → eqb (record_start b n) t ≡ false
    too_long l = ne_eqb (record_start b n) t (λ e. absurd (omega (arith, ends-before i n h)))

    pub not_fitting : (leb (record_start b i + size_at b (record_start b i)) t && ruled_at b (record_start b i)) ≡ false → false ≡ follow b n t
    unfolding follow
    not_fitting e = sym (refuted (eqb (record_start b n) t && every n (λ k. ruled_at b (record_start b k))) (λ p. go p (split (leb (record_start b i + size_at b (record_start b i)) t))))
      where
        go : (eqb (record_start b n) t && every n (λ k. ruled_at b (record_start b k))) ≡ true → (leb (record_start b i + size_at b (record_start b i)) t ≡ true) ⊎ (leb (record_start b i + size_at b (record_start b i)) t ≡ false) → ⊥
        go p (inl q) = not-both (every-at n (λ k. ruled_at b (record_start b k)) (and_snd (eqb (record_start b n) t) _ p) i h) (rw q at e)
        go p (inr q) = not-both (and_fst (eqb (record_start b n) t) _ p) (too_long (leb-false _ t q))

  pub following : (n t : ℕ) → ((k : ℕ) → k < n → ruled_at b (record_start b k) ≡ true) → eqb (record_start b n) t ≡ follow b n t
  unfolding follow
  following n t h = sym (rw (every_of n (λ k. ruled_at b (record_start b k)) h) (and_true (eqb (record_start b n) t)))
    where
      and_true : (x : Bool) → (x && true) ≡ x
      and_true true = refl
      and_true false = refl

  pub follow-ends : (n t : ℕ) → follow b n t ≡ true → record_start b n ≡ t
  unfolding follow
  follow-ends n t e = eqb-true (record_start b n) t (and_fst (eqb (record_start b n) t) (every n (λ k. ruled_at b (record_start b k))) e)

  pub follow-ruled : (n t : ℕ) → follow b n t ≡ true → (k : ℕ) → k < n → ruled_at b (record_start b k) ≡ true
  unfolding follow
  follow-ruled n t e = every-at n (λ k. ruled_at b (record_start b k)) (and_snd (eqb (record_start b n) t) (every n (λ k. ruled_at b (record_start b k))) e)

  pub none-marked : Marked b 0 (replicate 65536 0)
  unfolding some
  none-marked = record { size = length-replicate {A = ℕ} 65536 0; at = λ p. zeros p (lt_or_le p 65536) }
    where
      zeros : (p : ℕ) → (p < 65536) ⊎ (65536 ≤ p) → ◌≡◌ {A = ℕ} (get_or (replicate 65536 0) p 0) 0
      zeros p (inl h) = get_or-replicate {A = ℕ} 65536 p 0 0 h
      zeros p (inr h) = get_or-eq_default {A = ℕ} (replicate 65536 0) 0 {n = p} (rw (length-replicate {A = ℕ} 65536 0) h)

  pub one-marked : (i : ℕ) (marks : List ℕ) → record_start b i < 65536 → Marked b i marks → Marked b (i + 1) (set marks (record_start b i) 1)
  unfolding some
  one-marked i marks h M = record { size = length-set marks (record_start b i) 1 ∙ M.size; at = λ p. at p (eq_or_ne p (record_start b i)) }
    where
      at : (p : ℕ) → (p ≡ record_start b i) ⊎ (p ≡ record_start b i → ⊥) → get_or (set marks (record_start b i) 1) p 0 ≡ cond (some (i + 1) (λ k. eqb (record_start b k) p)) 1 0
      at p (inl e) =
          rw (e, get_or-set_same marks (record_start b i) 1 0 (rw M.size h), add-one i, eq-eqb (record_start b i) (record_start b i) refl, or_true (some i (λ k. eqb (record_start b k) (record_start b i)))) refl
      at p (inr d) =
          get_or-set_other marks (record_start b i) p 1 0 d ∙ M.at p
          ∙ rw (add-one i, ne_eqb (record_start b i) p (λ e. d (sym e)), or-none (some i (λ k. eqb (record_start b k) p))) refl

  -- ---- the second loop: the numbers of the trailer's list

  -- what the marks are when the first i numbers have been met
  pub record Open (i : ℕ) (marks : List ℕ) : Type 0 where
    pub size : length marks ≡ 65536
    pub at : (p : ℕ) → get_or marks p 0 ≡ cond (is_start b p && not (some i (λ k. eqb (listed b k) p))) 1 0

  pub all_open : (marks : List ℕ) → Marked b (count_of b) marks → Open 0 marks
  unfolding some is_start
  all_open marks M = record { size = M.size; at = λ p. M.at p ∙ ap (λ x. cond x 1 0) (and_true (some (count_of b) (λ k. eqb (record_start b k) p))) }
    where
      and_true : (x : Bool) → x ≡ (x && true)
      and_true true = refl
      and_true false = refl

  pub one_shut : (i : ℕ) (marks : List ℕ) → listed b i < 65536 → Open i marks → Open (i + 1) (set marks (listed b i) 0)
  unfolding some
  one_shut i marks h M = record { size = length-set marks (listed b i) 0 ∙ M.size; at = λ p. at p (eq_or_ne p (listed b i)) }
    where
      at : (p : ℕ) → (p ≡ listed b i) ⊎ (p ≡ listed b i → ⊥) → get_or (set marks (listed b i) 0) p 0 ≡ cond (is_start b p && not (some (i + 1) (λ k. eqb (listed b k) p))) 1 0
      at p (inl e) =
          rw (e, get_or-set_same marks (listed b i) 0 0 (rw M.size h), add-one i, eq-eqb (listed b i) (listed b i) refl, or_true (some i (λ k. eqb (listed b k) (listed b i))), and_false (is_start b (listed b i))) refl
      at p (inr d) =
          get_or-set_other marks (listed b i) p 0 0 d ∙ M.at p
          ∙ rw (add-one i, ne_eqb (listed b i) p (λ e. d (sym e)), or-none (some i (λ k. eqb (listed b k) p))) refl

  -- a number whose mark is gone, or was never there, is not listed once
  mark_tells : (x : Bool) → ◌≡◌ {A = ℕ} (cond x 1 0) 0 → x ≡ false
  mark_tells true e = absurd (omega arith)
  mark_tells false e = refl

  mark_shows : (x : Bool) → (◌≡◌ {A = ℕ} (cond x 1 0) 0 → ⊥) → x ≡ true
  mark_shows true e = refl
  mark_shows false e = absurd (e refl)

  module _ (i : ℕ) (marks : List ℕ) (M : Open i marks) where
    pub is_shut : get_or marks (listed b i) 0 ≡ 0 → listed_once b i ≡ false
    unfolding listed_once
    is_shut e = mark_tells (is_start b (listed b i) && not (some i (λ k. eqb (listed b k) (listed b i)))) (sym (M.at (listed b i)) ∙ e)

    pub is_open_lem : (get_or marks (listed b i) 0 ≡ 0 → ⊥) → listed_once b i ≡ true
    unfolding listed_once
    is_open_lem e = mark_shows (is_start b (listed b i) && not (some i (λ k. eqb (listed b k) (listed b i)))) (λ z. e (M.at (listed b i) ∙ z))

  pub listed_is : (t i p x : ℕ) → t ≡ trailer_at b → p ≡ t + 4 * i → x ≡ four_at b p → x ≡ listed b i
  unfolding listed
  listed_is t i p x e f g = g ∙ ap (four_at b) f ∙ ap (λ y. four_at b (y + 4 * i)) e

  -- no record starts at or after the end of the records
  pub no_start : (t p : ℕ) → record_start b (count_of b) ≡ t → t ≤ p → is_start b p ≡ false
  unfolding is_start
  no_start t p e h =
      refuted (some (count_of b) (λ k. eqb (record_start b k) p)) (λ q.
      let (k, l, r) = some_at (count_of b) (λ k. eqb (record_start b k) p) q in
      absurd (omega (arith, head-before k (count_of b) l, eqb-true (record_start b k) p r)))

  pub not_listed : (t i : ℕ) → record_start b (count_of b) ≡ t → t ≤ listed b i → listed_once b i ≡ false
  unfolding listed_once
  not_listed t i e h = rw (no_start t (listed b i) e h)
