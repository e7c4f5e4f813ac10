-- A sum that follows an edit (document 02, A.10): the old number is subtracted and the new one added, and on the grid the bits are those of a fresh pass.
-- Assumes nothing.
use Rattle.std.specs.Prelude.{◌≡◌, ◌⊎◌, ℕ, zero, suc, ◌+◌, ◌<◌, Float}
use Rattle.std.proofs.Common.{sym, ap, inl, inr, arith}
use Rattle.std.specs.Float.{binary64}
use Rattle.std.specs.Float.Ieee.{add, sub}
use Rattle.lists.specs.Cases.{eq_or_ne}
use Rattle.lists.specs.Tab.{times}
use Rattle.grid.specs.Sums.{total, total-same}

-- the sum with the old number subtracted and the new one added
abbrev pub edited : Float → Float → Float → Float
edited s old new = add binary64 (sub binary64 s old) new

-- g is f but at j
abbrev pub ButAt : ℕ → ℕ → (ℕ → Float) → (ℕ → Float) → Type 0
ButAt n j f g = (k : ℕ) → k < n → (k ≡ j → ⊥) → g k ≡ f k

-- totals of lists that differ at j
pub total_but : (n j : ℕ) (f g : ℕ → ℕ) → j < n → ((k : ℕ) → k < n → (k ≡ j → ⊥) → g k ≡ f k) → total n g + f j ≡ total n f + g j
unfolding total times
total_but zero j f g h s = absurd (omega arith)
total_but (suc n) j f g h s = go (eq_or_ne j n) (λ l. total_but n j f g l (λ k b. s k (omega arith)))
  where
    go : (j ≡ n) ⊎ (j ≡ n → ⊥) → (j < n → total n g + f j ≡ total n f + g j) → total n g + g n + f j ≡ total n f + f n + g j
    go (inl e) r =
        let t = total-same n g f (λ k l. s k (omega arith) (λ q. omega arith)) in
        let a : f j ≡ f n = ap f e in
        let b : g j ≡ g n = ap g e in
        omega arith
    go (inr d) r =
        let t = r (omega arith) in
        let a : g n ≡ f n = s n (omega arith) (λ q. d (sym q)) in
        omega arith
