-- What the loops of the test of the representatives know on their way. Only the contracts of private functions cite these.
-- Assumes nothing.
use Rattle.std.specs.Prelude.{◌≡◌, List, ◌⊎◌, ℕ, ◌+◌, ◌<◌, ℤ, length, get_or}
use Rattle.tables.specs.Conditions.{index_at}
use Rattle.shifts.specs.Rows.{image}

-- the images of atom a under the first k rows are of primitive atom p, and have their entries
pub record Placing (n k a p : ℕ) (perms s2pp : List ℤ) (old new : List ℕ) : Type 0 where
  pub size : length new ≡ 1024
  pub kept : (t : ℕ) → t < k → index_at s2pp (image perms n t a) ≡ p
  pub names : (t : ℕ) → t < k → get_or new (image perms n t a) 0 ≡ t + 1
  pub named : (x : ℕ) → (get_or new x 0 ≡ get_or old x 0) ⊎ ((t : ℕ) × (t < k) × (image perms n t a ≡ x))

-- the same of the first k representatives, and of no other atom
pub record Placed (n m k : ℕ) (perms p2s s2pp : List ℤ) (sent : List ℕ) : Type 0 where
  pub size : length sent ≡ 1024
  pub kept : (p t : ℕ) → p < k → t < m → index_at s2pp (image perms n t (index_at p2s p)) ≡ p
  pub names : (p t : ℕ) → p < k → t < m → get_or sent (image perms n t (index_at p2s p)) 0 ≡ t + 1
  pub named : (x : ℕ) → (get_or sent x 0 ≡ 0 → ⊥) → (p : ℕ) × (p < k) × (t : ℕ) × (t < m) × (image perms n t (index_at p2s p) ≡ x)

-- no atom of primitive atom p has an entry
abbrev pub Fresh : ℕ → List ℤ → List ℕ → Type 0
Fresh p s2pp sent = (x : ℕ) → index_at s2pp x ≡ p → get_or sent x 0 ≡ 0

-- the rows send atom a to different atoms of primitive atom p
abbrev pub Spread : ℕ → ℕ → List ℤ → List ℤ → ℕ → ℕ → Type 0
Spread n m perms s2pp a p =
    ((t : ℕ) → t < m → index_at s2pp (image perms n t a) ≡ p)
    × ((t u : ℕ) → t < m → u < m → image perms n t a ≡ image perms n u a → t ≡ u)
