-- The rows of shift tables alone, as the functions that test them take them.
-- Assumes nothing.
use Rattle.std.specs.Prelude.{◌≡◌, List, [], ℕ, ◌+◌, ◌*◌, ◌≤◌, ◌<◌, ℤ, get_or}
use Rattle.lists.specs.Digits.{in_row}
use Rattle.tables.specs.Conditions.{index_at, Readable, IndexTable, read}
use Rattle.tables.specs.Shifts.{Shifts, row}
use Rattle.tables.specs.Compact.{ShiftTables, shifts_of, perms_is}

abbrev row_tables : ℕ → ℕ → List ℤ → ShiftTables
row_tables n_satom num_trans perms = record { n_satom = n_satom; n_patom = 0; num_trans = num_trans; perms = perms; p2s = []; s2pp = []; nsym_list = [] }

-- shift tables with the given rows, of which nothing else is looked at
abbrev pub rows_of : ℕ → ℕ → List ℤ → Shifts
rows_of n_satom num_trans perms = shifts_of (row_tables n_satom num_trans perms)

-- rows that passed refusals 1 to 3
pub record Rows (n_satom num_trans : ℕ) (perms : List ℤ) : Type 0 where
  pub atoms : n_satom ≤ 1024
  pub shifts : num_trans ≤ 1024
  pub table : IndexTable (num_trans * n_satom) n_satom perms

pub row_is : (n m : ℕ) (perms : List ℤ) (t a : ℕ) → index_at perms (t * n + a) ≡ row (rows_of n m perms) t a
row_is n m perms = perms_is (row_tables n m perms)

module _ {n m : ℕ} {perms : List ℤ} (R : Rows n m perms) where
  pub row_read : (t a : ℕ) → t < m → a < n → Readable perms (t * n + a)
  row_read t a ht ha = (read R.table (t * n + a) (in_row m n t a ht ha)).0

-- ---- what a test of all rows is about

-- where row t sends atom a
abbrev pub image : List ℤ → ℕ → ℕ → ℕ → ℕ
image perms n t a = index_at perms (t * n + a)

-- row u after row t is row v
abbrev pub Composed : ℕ → List ℤ → ℕ → ℕ → ℕ → Type 0
Composed n perms t u v = (a : ℕ) → a < n → image perms n u (image perms n t a) ≡ image perms n v a

-- one row after another is a row
abbrev pub Closed : ℕ → ℕ → List ℤ → Type 0
Closed n m perms = (t u : ℕ) → t < m → u < m → (v : ℕ) × (v < m) × Composed n perms t u v

-- sent[a] is t + 1 where row t sends the representative of atom a to a
pub record Sent (n m nP : ℕ) (perms p2s s2pp : List ℤ) (sent : List ℕ) : Type 0 where
  pub rows : Rows n m perms
  pub reps : IndexTable nP n p2s
  pub orbs : IndexTable n nP s2pp
  pub rep : 0 < nP
  pub null : (z : ℕ) × (z < m) × ((a : ℕ) → a < n → image perms n z a ≡ a)
  pub kept : (p t : ℕ) → p < nP → t < m → index_at s2pp (image perms n t (index_at p2s p)) ≡ p
  pub names : (p t : ℕ) → p < nP → t < m → get_or sent (image perms n t (index_at p2s p)) 0 ≡ t + 1
  pub named : (a : ℕ) → a < n → (t : ℕ) × (t < m) × (image perms n t (index_at p2s (index_at s2pp a)) ≡ a) × (get_or sent a 0 ≡ t + 1)
