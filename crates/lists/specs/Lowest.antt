-- The lowest number that passes a test. Assumes nothing.
use Rattle.std.specs.Prelude.{◌≡◌, Bool, true, false, cond, ◌⊎◌, ℕ, zero, suc, ◌≤◌, ◌<◌}
use Rattle.std.proofs.Common.{sym, ap, ◌∙◌, subst, inl, inr, not-suc-le-zero, le_of_suc-le-suc, arith}
use Rattle.lists.specs.Tests.{split, not-both}
use Rattle.lists.specs.Cases.{lt_or_le}

-- the lowest number below n that passes the test; n where none does
unfoldable pub lowest : ℕ → (ℕ → Bool) → ℕ
lowest zero f = zero
lowest (suc n) f = cond (f zero) zero (suc (lowest n (λ k. f (suc k))))

-- q is that number
pub record Lowest (n : ℕ) (f : ℕ → Bool) (q : ℕ) : Type 0 where
  pub within : q ≤ n
  pub passes : q < n → f q ≡ true
  pub before : (k : ℕ) → k < q → f k ≡ false

pub lowest_is : (n : ℕ) (f : ℕ → Bool) → Lowest n f (lowest n f)
unfolding lowest
lowest_is zero f = record { within = omega arith; passes = λ h. absurd (not-suc-le-zero h); before = λ k h. absurd (not-suc-le-zero h) }
lowest_is (suc n) f = go (split (f zero)) (lowest_is n (λ k. f (suc k)))
  where
    later : (s : ℕ) → f zero ≡ false → Lowest n (λ k. f (suc k)) s → (k : ℕ) → k < suc s → f k ≡ false
    later s e p zero h = e
    later s e p (suc k) h = p.before k (le_of_suc-le-suc h)

    go : (f zero ≡ true) ⊎ (f zero ≡ false) → Lowest n (λ k. f (suc k)) (lowest n (λ k. f (suc k)))
        → Lowest (suc n) f (cond (f zero) zero (suc (lowest n (λ k. f (suc k)))))
    go (inl e) p =
        subst (Lowest (suc n) f) (sym (ap (λ b. cond b zero (suc (lowest n (λ k. f (suc k))))) e))
        (record { within = omega arith; passes = λ h. e; before = λ k h. absurd (not-suc-le-zero h) })
    go (inr e) p =
        let s = lowest n (λ k. f (suc k)) in
        let w = p.within in
        subst (Lowest (suc n) f) (sym (ap (λ b. cond b zero (suc s)) e))
        (record { within = omega arith; passes = λ h. p.passes (le_of_suc-le-suc h); before = later s e p })

-- there is only one
pub lowest-one : (n : ℕ) (f : ℕ → Bool) (q r : ℕ) → Lowest n f q → Lowest n f r → q ≡ r
lowest-one n f q r a b = go (lt_or_le q r) (lt_or_le r q)
  where
    less : (x y : ℕ) → Lowest n f x → Lowest n f y → x < y → ⊥
    less x y a b h = let w = b.within in not-both (a.passes (omega arith)) (b.before x h)

    go : (q < r) ⊎ (r ≤ q) → (r < q) ⊎ (q ≤ r) → q ≡ r
    go (inl h) e = absurd (less q r a b h)
    go (inr g) (inl h) = absurd (less r q b a h)
    go (inr g) (inr h) = omega arith

pub is_lowest : (n : ℕ) (f : ℕ → Bool) (q : ℕ) → Lowest n f q → q ≡ lowest n f
is_lowest n f q a = lowest-one n f q (lowest n f) a (lowest_is n f)

-- tests that say the same
pub Lowest-same : (n : ℕ) (f g : ℕ → Bool) (q : ℕ) → ((k : ℕ) → k < n → f k ≡ g k) → Lowest n f q → Lowest n g q
Lowest-same n f g q e a = record {
  within = a.within;
  passes = λ h. sym (e q h) ∙ a.passes h;
  before = λ k h. let w = a.within in sym (e k (omega arith)) ∙ a.before k h;
}

pub lowest-same : (n : ℕ) (f g : ℕ → Bool) → ((k : ℕ) → k < n → f k ≡ g k) → lowest n f ≡ lowest n g
lowest-same n f g e = is_lowest n g (lowest n f) (Lowest-same n f g (lowest n f) e (lowest_is n f))

pub lowest_le : (n : ℕ) (f : ℕ → Bool) → lowest n f ≤ n
lowest_le n f = (lowest_is n f).within

pub lowest-passes : (n : ℕ) (f : ℕ → Bool) → lowest n f < n → f (lowest n f) ≡ true
lowest-passes n f = (lowest_is n f).passes

pub lowest_fails : (n : ℕ) (f : ℕ → Bool) (k : ℕ) → k < lowest n f → f k ≡ false
lowest_fails n f = (lowest_is n f).before

-- found by what it is: none before it passes, and it passes if it is below n
pub lowest_by : (n : ℕ) (f : ℕ → Bool) (j : ℕ) → j ≤ n → ((k : ℕ) → k < j → f k ≡ false) → (j < n → f j ≡ true) → j ≡ lowest n f
lowest_by n f j h fails passes = is_lowest n f j (record { within = h; passes = passes; before = fails })
