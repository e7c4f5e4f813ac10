-- `transpose_compact_fc4` (document 01, "Third and fourth order"): what the call answers and what it leaves. Definitions only.
use Rattle.std.specs.Prelude.{List, ℕ, ℤ, pos, negsuc, length, replicate, Float}
use Rattle.std.specs.Float.{nan}
use Rattle.tables.specs.Answers.{Answer}
use Rattle.tables.specs.Answers.{after}
use Rattle.tables.specs.Shifts.{Shifts}
use Rattle.tables.specs.Compact.{ShiftTables, shifts_of, judged_compact}
use Rattle.tables.specs.Limits.{limit4}
use Rattle.places.specs.Moves.{transposed4}

-- the set transposed by a type: only 0 has a meaning, any other changes nothing, a negative one too
unfoldable pub transposed_by4 : Shifts → ℤ → List Float → List Float
transposed_by4 S (pos t) set = transposed4 nan S t set
transposed_by4 S (negsuc t) set = set

-- the call: n_patom × n_satom³ × 81 numbers, n_patom × n_satom bytes of work
unfoldable pub transpose_compact_fc4 : List Float → ShiftTables → List ℕ → ℤ → Answer × List Float × List ℕ
transpose_compact_fc4 set T work t =
    let a = judged_compact limit4 3 (length set) 1 (length work) T in
    (a, after a (transposed_by4 (shifts_of T) t set) set, after a (replicate (length work) 0) work)
