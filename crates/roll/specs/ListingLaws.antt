-- n different numbers below n are all the numbers below n: so a list of as many numbers as there are starts, each of them a start and none
-- twice, lists every start just once. Assumes nothing.
use Rattle.std.specs.Prelude.{◌≡◌, Bool, true, false, not, cond, ◌⊎◌, List, ℕ, zero, suc, ◌+◌, ◌-◌, ◌≤◌, ◌<◌}
use Rattle.std.proofs.Common.{sym, ap, ◌∙◌, inl, inr, not-suc-le-zero, arith}
use Rattle.std.proofs.Math.Dec.{eqb}
use borrow.Author.Tests.{eqb-true}
use Rattle.lists.specs.Tests.{some, some_at, split, not-both, and_fst}
use Rattle.lists.specs.Cases.{lt_or_le}
use Rattle.roll.specs.Reading.{record_start, listed, listed_once, is_start, count_of}
use Rattle.roll.specs.StartLaws.{head-before}

-- the first n values differ
abbrev pub Differ : ℕ → (ℕ → ℕ) → Type 0
Differ n f = (k i : ℕ) → k < i → i < n → f k ≡ f i → ⊥

-- the last number below n that passes
unfoldable pub last_passing : ℕ → (ℕ → Bool) → ℕ
last_passing zero f = 0
last_passing (suc n) f = cond (f n) n (last_passing n f)

pub last-passes : (n : ℕ) (f : ℕ → Bool) (k : ℕ) → k < n → f k ≡ true → (last_passing n f < n) × (f (last_passing n f) ≡ true)
unfolding last_passing
last-passes zero f k h e = absurd (not-suc-le-zero h)
last-passes (suc n) f k h e = go (split (f n)) (last-passes n f k)
  where
    go : (f n ≡ true) ⊎ (f n ≡ false) → (k < n → f k ≡ true → (last_passing n f < n) × (f (last_passing n f) ≡ true)) → (cond (f n) n (last_passing n f) < suc n) × (f (cond (f n) n (last_passing n f)) ≡ true)
    go (inl q) r = rw q (omega arith, q)
    go (inr q) r = rw q (later (lt_or_le k n))
      where
        later : (k < n) ⊎ (n ≤ k) → (last_passing n f < suc n) × (f (last_passing n f) ≡ true)
        later (inl l) = let (x, y) = r l e in (omega arith, y)
        later (inr l) = let z : k ≡ n = omega arith in absurd (not-both e (ap f z ∙ q))

-- ---- the trailer's list

module _ (b : List ℕ) (once : (i : ℕ) → i < count_of b → listed_once b i ≡ true) where
  abbrev n : ℕ
  n = count_of b

  -- which record the number i of the list is the start of
  abbrev pub which : ℕ → ℕ
  which i = last_passing n (λ k. eqb (record_start b k) (listed b i))

  which_is : (i : ℕ) → i < n → (which i < n) × (record_start b (which i) ≡ listed b i)
  unfolding listed_once is_start
  which_is i h =
      let (k, l, e) = some_at n (λ k. eqb (record_start b k) (listed b i)) (and_fst (is_start b (listed b i)) (not (some i (λ k. eqb (listed b k) (listed b i)))) (once i h)) in
      let (x, y) = last-passes n (λ k. eqb (record_start b k) (listed b i)) k l e in
      (x, eqb-true (record_start b (which i)) (listed b i) y)

  -- a list that rises has the starts in the order of the records: n numbers below n that rise are 0, 1, ..
  module _ (up : (i : ℕ) → i + 1 < n → listed b i < listed b (i + 1)) where
    which_up : (i : ℕ) → i + 1 < n → which i < which (i + 1)
    which_up i h = go (lt_or_le (which i) (which (i + 1))) (lt_or_le (which (i + 1)) (which i))
      where
        s : record_start b (which i) < record_start b (which (i + 1))
        s = omega (arith, (which_is i (omega arith)).1, (which_is (i + 1) h).1, up i h)

        go : (which i < which (i + 1)) ⊎ (which (i + 1) ≤ which i) → (which (i + 1) < which i) ⊎ (which i ≤ which (i + 1)) → which i < which (i + 1)
        go (inl l) q = l
        go (inr l) (inl q) = absurd (omega (arith, s, head-before b (which (i + 1)) (which i) q))
        go (inr l) (inr q) = let e : which i ≡ which (i + 1) = omega arith in absurd (omega (arith, s, ap (record_start b) e))

    further : (i k : ℕ) → i + k < n → which i + k ≤ which (i + k)
    further i zero h = let e : i + 0 ≡ i = omega arith in rw e (omega arith)
    further i (suc k) h =
        let e : i + suc k ≡ i + k + 1 = omega arith in
        let r = further i k (omega arith) in
        let w = which_up (i + k) (omega arith) in
        rw e (omega arith)

    pub listed_in_order : (i : ℕ) → i < n → listed b i ≡ record_start b i
    listed_in_order i h =
        let z : 0 + i ≡ i = omega arith in
        let last : i + (n - 1 - i) ≡ n - 1 = omega arith in
        let low : i ≤ which i = omega (arith, further 0 i (omega arith), ap which z) in
        let high : which i ≤ i = omega (arith, further i (n - 1 - i) (omega arith), ap which last, (which_is (n - 1) (omega arith)).0) in
        let same : which i ≡ i = omega arith in
        sym (which_is i h).1 ∙ ap (record_start b) same
