-- `transpose_compact_fc3` (document 01, "Third and fourth order"): what the call answers and what it leaves. Definitions only.
use Rattle.std.specs.Prelude.{List, ℕ, ℤ, pos, negsuc, length, replicate, Float}
use Rattle.std.specs.Float.{nan}
use Rattle.tables.specs.Answers.{Answer}
use Rattle.tables.specs.Answers.{after}
use Rattle.tables.specs.Shifts.{Shifts}
use Rattle.tables.specs.Compact.{ShiftTables, shifts_of, judged_compact}
use Rattle.tables.specs.Limits.{limit3}
use Rattle.places.specs.Moves.{transposed}

-- the set transposed by a type: 0, 1 and 2 have a meaning, any other changes nothing, a negative one too
unfoldable pub transposed_by : Shifts → ℤ → List Float → List Float
transposed_by S (pos t) set = transposed nan S t set
transposed_by S (negsuc t) set = set

-- the guard: n_patom × n_satom² × 27 numbers, n_patom × n_satom bytes of work
abbrev pub judged_transpose : ℕ → ℕ → ShiftTables → Answer
judged_transpose lenSet lenWork T = judged_compact limit3 2 lenSet 1 lenWork T

-- the call: the answer, the set and the work slice
unfoldable pub transpose_compact_fc3 : List Float → ShiftTables → List ℕ → ℤ → Answer × List Float × List ℕ
transpose_compact_fc3 set T work t =
    let a = judged_transpose (length set) (length work) T in
    (a, after a (transposed_by (shifts_of T) t set) set, after a (replicate (length work) 0) work)
