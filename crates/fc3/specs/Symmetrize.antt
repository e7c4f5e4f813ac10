-- The symmetrizers of third order (document 01, "Third and fourth order"): what the calls answer and what they leave. Definitions only.
use Rattle.std.specs.Prelude.{List, [], ℕ, length, replicate, Float}
use Rattle.std.specs.Float.{nan}
use Rattle.tables.specs.Answers.{Answer}
use Rattle.tables.specs.Answers.{after}
use Rattle.tables.specs.Full.{judged_full}
use Rattle.tables.specs.Compact.{ShiftTables, shifts_of, judged_compact}
use Rattle.tables.specs.Limits.{limit3}
use Rattle.places.specs.Places.{perms3, full_shifts}
use Rattle.orbits.specs.Symmetric.{symmetrized, mean6}

-- the compact set, with a byte of work for each block
unfoldable pub set_permutation_symmetry_compact_fc3 : List Float → ShiftTables → List ℕ → Answer × List Float × List ℕ
set_permutation_symmetry_compact_fc3 set T work =
    let a = judged_compact limit3 2 (length set) 2 (length work) T in
    (a, after a (symmetrized nan mean6 (shifts_of T) 2 perms3 set) set, after a (replicate (length work) 0) work)

-- the full set: a compact set in which each atom is its own representative
unfoldable pub set_permutation_symmetry_fc3 : List Float → ℕ → Answer × List Float
set_permutation_symmetry_fc3 set n =
    let a = judged_full limit3 2 (length set) [] n in
    (a, after a (symmetrized nan mean6 (full_shifts n) 2 perms3 set) set)
