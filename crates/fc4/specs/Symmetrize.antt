-- The symmetrizers of fourth order (document 01, "Third and fourth order"): what the calls answer and what they leave. Definitions only.
use Rattle.std.specs.Prelude.{List, [], ◌∷◌, ℕ, length, replicate, Float}
use Rattle.std.specs.Float.{nan}
use Rattle.tables.specs.Answers.{Answer}
use Rattle.tables.specs.Answers.{after}
use Rattle.tables.specs.Full.{judged_full}
use Rattle.tables.specs.Compact.{ShiftTables, shifts_of, judged_compact}
use Rattle.tables.specs.Lengths.{set_blocks}
use Rattle.tables.specs.Limits.{limit4}
use Rattle.places.specs.Permutations.{perms4}
use Rattle.places.specs.WholeLaws.{full_shifts}
use Rattle.orbits.specs.Symmetric.{symmetrized}
use Rattle.fc4.specs.Mean24.{mean24}

-- the compact set, with a byte of work for each block
unfoldable pub set_permutation_symmetry_compact_fc4 : List Float → ShiftTables → List ℕ → Answer × List Float × List ℕ
set_permutation_symmetry_compact_fc4 set T work =
    let a = judged_compact limit4 3 (length set) 3 (length work) T in
    (a, after a (symmetrized nan mean24 (shifts_of T) 3 perms4 set) set, after a (replicate (length work) 0) work)

-- the full set: a compact set in which each atom is its own representative
unfoldable pub set_permutation_symmetry_fc4 : List Float → List ℕ → ℕ → Answer × List Float × List ℕ
set_permutation_symmetry_fc4 set work n =
    let a = judged_full limit4 3 (length set) ((length work, set_blocks n n 3) ∷ []) n in
    (a, after a (symmetrized nan mean24 (full_shifts n) 3 perms4 set) set, after a (replicate (length work) 0) work)
