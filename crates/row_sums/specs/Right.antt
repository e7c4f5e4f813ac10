-- Row sums that were right stay right over any series of edits on the grid, and each edit leaves all else alone (document 02, A.10).
-- Assumes nothing.
use Rattle.std.specs.Prelude.{◌≡◌, true, false, List, [], ◌∷◌, ℕ, ◌+◌, ◌*◌, ◌<◌, length, Float}
use Rattle.std.proofs.Math.ListN.{get_or}
use Rattle.std.specs.Float.Ieee.{nan}
use Rattle.tables.specs.Answers.{is_refusal}
use Rattle.blocks.specs.Block.{block}
use Rattle.grid.specs.Grid.{on_grid}
use Rattle.row_sums.specs.RowSums.{row_sums, replace_block}

-- a full set of n atoms, every entry on the grid
pub record OnGrid (n : ℕ) (set : List Float) : Type 0 where
  pub long : length set ≡ n * n * 9
  pub entries : (q : ℕ) → q < n * n * 9 → on_grid (get_or set q nan) ≡ true

-- and its sums are right: those of a fresh pass, bit for bit
pub record Right (n : ℕ) (set sums : List Float) : Type 0 where
  pub grid : OnGrid n set
  pub fresh : sums ≡ row_sums n set

-- one call: what it is given beside the set and the sums. The count may be a wrong one, the block off the grid: then the call is refused.
pub record Edit : Type 0 where
  pub new : List Float
  pub i : ℕ
  pub j : ℕ
  pub n : ℕ

-- the set and the sums after a list of calls, one after another
unfoldable pub after_all : List Edit → List Float × List Float → List Float × List Float
after_all [] p = p
after_all (e ∷ es) p = let r = replace_block p.0 p.1 e.new e.i e.j e.n in after_all es (r.1, r.2)

-- ---- WHAT AN EDIT LEAVES ALONE

-- every other block of the set, and the nine sums of every other atom, whatever the numbers are; a call that is not refused stores the block
pub record Alone (set sums new : List Float) (i j n : ℕ) : Type 0 where
  pub blocks : (a c : ℕ) → a < n → c < n → ((a ≡ i) × (c ≡ j) → ⊥) → block 9 (a * n + c) (replace_block set sums new i j n).1 ≡ block 9 (a * n + c) set
  pub sums_of : (a : ℕ) → a < n → (a ≡ i → ⊥) → block 9 a (replace_block set sums new i j n).2 ≡ block 9 a sums
  pub stored : is_refusal (replace_block set sums new i j n).0 ≡ false → length new ≡ 9 → block 9 (i * n + j) (replace_block set sums new i j n).1 ≡ new
