-- A compact set read out to the full one (document 02, A.11): what the calls answer and what they leave. Definitions only.
use Rattle.std.specs.Prelude.{List, [], ◌∷◌, ℕ, length, Float}
use Rattle.std.specs.Float.{nan}
use Rattle.tables.specs.Answers.{Answer}
use Rattle.tables.specs.Answers.{after}
use Rattle.tables.specs.Lengths.{set_length}
use Rattle.tables.specs.Compact.{ShiftTables, shifts_of, judged_set}
use Rattle.tables.specs.Limits.{limit2, limit3, limit4}
use Rattle.read_out.specs.FullSet.{full_set}

-- The guard at rank m + 1: a compact set of n_patom first atoms among n_satom, and the full set, in which each of n_satom atoms is a first one.
unfoldable pub judged_read_out : ℕ → ℕ → ℕ → ℕ → ShiftTables → Answer
judged_read_out limit m lenFull lenSet T = judged_set limit m lenSet ((lenFull, set_length T.n_satom T.n_satom m) ∷ []) T

-- the call: the answer and the full set; the compact set is only read
unfoldable pub compact_to_full : ℕ → ℕ → List Float → List Float → ShiftTables → Answer × List Float
compact_to_full limit m full set T =
    let a = judged_read_out limit m (length full) (length set) T in
    (a, after a (full_set nan (shifts_of T) m set) full)

abbrev pub compact_to_full_fc2 : List Float → List Float → ShiftTables → Answer × List Float
compact_to_full_fc2 full set T = compact_to_full limit2 1 full set T

abbrev pub compact_to_full_fc3 : List Float → List Float → ShiftTables → Answer × List Float
compact_to_full_fc3 full set T = compact_to_full limit3 2 full set T

abbrev pub compact_to_full_fc4 : List Float → List Float → ShiftTables → Answer × List Float
compact_to_full_fc4 full set T = compact_to_full limit4 3 full set T
