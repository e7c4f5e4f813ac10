-- What the loops of the test for closed rows know on their way: each row is the null shift, a generator, or a row already made after
-- another; the generators keep the representatives' rows together and commute with one another's shifts from the right.
-- Only the contracts of private functions cite these; the promise is Rows' Closed.
-- Assumes nothing.
use Rattle.std.specs.Prelude.{◌≡◌, List, ℕ, ◌+◌, ◌-◌, ◌≤◌, ◌<◌, ℤ, length, get_or}
use Rattle.tables.specs.Conditions.{index_at}
use Rattle.shifts.specs.Rows.{Rows, image, Composed}

-- sent[a] is t + 1 where row t sends the representative base to a
pub record Marked (n m : ℕ) (perms : List ℤ) (base : ℕ) (sent : List ℕ) : Type 0 where
  pub rows : Rows n m perms
  pub below : base < n
  pub names : (t : ℕ) → t < m → get_or sent (image perms n t base) 0 ≡ t + 1
  pub named : (a : ℕ) → a < n → (0 < get_or sent a 0) × (get_or sent a 0 ≤ m)

-- the null shift, a generator, or one such row after another
pub data Made (n m : ℕ) (perms : List ℤ) (gens : List ℕ) : ℕ → Type 0 where
  shift_none : {u : ℕ} → ((a : ℕ) → a < n → image perms n u a ≡ a) → Made n m perms gens u
  generator : {u : ℕ} → (get_or gens u 0 ≡ 0 → ⊥) → Made n m perms gens u
  shift-after : {r g v : ℕ} → r < m → g < m → Made n m perms gens r → Made n m perms gens g → Composed n perms r g v → Made n m perms gens v

-- the rows with an entry are made, and so are those that the entries point to
pub record Known (n m : ℕ) (perms : List ℤ) (gens known : List ℕ) : Type 0 where
  pub size : length known ≡ 1024
  pub made : (v : ℕ) → v < m → (get_or known v 0 ≡ 0 → ⊥) → Made n m perms gens v
  pub next : (v x : ℕ) → v < m → x < m → get_or known v 0 ≡ x + 1 → Made n m perms gens x

-- a generator stays one
abbrev pub More : List ℕ → List ℕ → Type 0
More gens gens' = (k : ℕ) → (get_or gens k 0 ≡ 0 → ⊥) → get_or gens' k 0 ≡ 0 → ⊥

-- what is known once row u was looked at
pub record Learnt (n m : ℕ) (perms : List ℤ) (u : ℕ) (gens gens' known : List ℕ) : Type 0 where
  pub size : length gens' ≡ 1024
  pub more : More gens gens'
  pub made : Made n m perms gens' u
  pub knows : Known n m perms gens' known

-- row g sends atom a to one of the same primitive atom, and of the same row as the image of the first representative under the row of a
abbrev pub KeepsAt : ℕ → List ℤ → List ℤ → List ℤ → List ℕ → ℕ → ℕ → Type 0
KeepsAt n perms p2s s2pp sent g a =
    (index_at s2pp (image perms n g a) ≡ index_at s2pp a)
    × (get_or sent (image perms n g a) 0 ≡ get_or sent (image perms n g (image perms n (get_or sent a 0 - 1) (index_at p2s 0))) 0)

-- Row s from the right: it sends what a row makes of a representative to what that row makes of the representative shifted by s.
abbrev pub right_of : List ℤ → ℕ → List ℤ → List ℤ → List ℕ → ℕ → ℕ → ℕ
right_of perms n p2s s2pp sent s a = image perms n (get_or sent a 0 - 1) (image perms n s (index_at p2s (index_at s2pp a)))

abbrev pub Commutes : ℕ → List ℤ → ℕ → (ℕ → ℕ) → Type 0
Commutes n perms g h = (a : ℕ) → a < n → image perms n g (h a) ≡ h (image perms n g a)

-- what is tested of generator s
abbrev pub Settled : ℕ → ℕ → List ℤ → List ℤ → List ℤ → List ℕ → List ℕ → ℕ → Type 0
Settled n m perms p2s s2pp sent gens s =
    ((a : ℕ) → a < n → KeepsAt n perms p2s s2pp sent s a) × ((g : ℕ) → g < m → (get_or gens g 0 ≡ 0 → ⊥) → Commutes n perms g (right_of perms n p2s s2pp sent s))
