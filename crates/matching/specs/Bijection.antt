-- True is answered exactly if no slot is left over, and then the slots are a bijection of near pairs (document 01, "Matched atoms").
-- Assumes nothing.
use Rattle.std.specs.Prelude.{◌≡◌, Bool, true, List, ℤ, pos}
use Prim.Native.Nat.{ℕ, ◌<◌}
use Rattle.matching.specs.Slots.{slot_at}

-- slot j holds a position below n that is near it
abbrev pub Taken : (ℕ → ℕ → Bool) → ℕ → List ℤ → ℕ → Type 0
Taken is_near n slots j = (i : ℕ) × (i < n) × (slot_at slots j ≡ pos i) × (is_near i j ≡ true)

-- each of the n slots holds a position that is near it, no two the same, and every position is in a slot
pub record Bijection (is_near : ℕ → ℕ → Bool) (n : ℕ) (slots : List ℤ) : Type 0 where
  pub taken : (j : ℕ) → j < n → Taken is_near n slots j
  pub distinct : (j k : ℕ) → j < n → k < n → slot_at slots j ≡ slot_at slots k → j ≡ k
  pub onto : (i : ℕ) → i < n → (j : ℕ) × (j < n) × (slot_at slots j ≡ pos i)
