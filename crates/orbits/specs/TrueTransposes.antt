-- The true transposes of second, third and fourth order (document 02, A.1): what the calls answer and what they leave. Every read-out entry moves,
-- also where a half shift exchanges the atoms. They take the slices, the limits and the types of the calls that are the Rust's. Definitions only.
use Rattle.std.specs.Prelude.{cond, List, ℕ, zero, suc, eqb, ℤ, pos, negsuc, length, replicate, Float}
use Rattle.std.specs.Float.{nan}
use Rattle.tables.specs.Answers.{Answer}
use Rattle.tables.specs.Answers.{after}
use Rattle.tables.specs.Shifts.{Shifts}
use Rattle.tables.specs.Compact.{ShiftTables, shifts_of, judged_compact}
use Rattle.tables.specs.Limits.{limit2, limit3, limit4}
use Rattle.places.specs.Moves.{moved}
use Rattle.orbits.specs.Exchanging.{exchanging}

-- a set of rank m + 1 with two legs of every number exchanged; equal legs leave it as it is
unfoldable pub swapped : Shifts → ℕ → ℕ × ℕ → List Float → List Float
swapped S m l set = cond (eqb l.0 l.1) set (moved nan S m (exchanging m l.0 l.1) set)

-- a call: n_patom × n_satom^m × 3^(m + 1) numbers, n_patom × n_satom bytes of work; the answer, the set and the work slice
unfoldable pub true_transpose : ℕ → ℕ → List Float → ShiftTables → List ℕ → ℕ × ℕ → Answer × List Float × List ℕ
true_transpose limit m set T work l =
    let a = judged_compact limit m (length set) 1 (length work) T in
    (a, after a (swapped (shifts_of T) m l set) set, after a (replicate (length work) 0) work)

-- the legs that a type of third order exchanges; a type without a meaning exchanges none, a negative one too
unfoldable pub legs3 : ℤ → ℕ × ℕ
legs3 (pos zero) = (0, 1)
legs3 (pos (suc zero)) = (0, 2)
legs3 (pos (suc (suc zero))) = (1, 2)
legs3 (pos (suc (suc (suc t)))) = (0, 0)
legs3 (negsuc t) = (0, 0)

-- at fourth order only type 0 has a meaning
unfoldable pub legs4 : ℤ → ℕ × ℕ
legs4 (pos zero) = (0, 1)
legs4 (pos (suc t)) = (0, 0)
legs4 (negsuc t) = (0, 0)

-- ---- the calls

unfoldable pub true_transpose_compact_fc2 : List Float → ShiftTables → List ℕ → Answer × List Float × List ℕ
true_transpose_compact_fc2 set T work = true_transpose limit2 1 set T work (0, 1)

unfoldable pub true_transpose_compact_fc3 : List Float → ShiftTables → List ℕ → ℤ → Answer × List Float × List ℕ
true_transpose_compact_fc3 set T work t = true_transpose limit3 2 set T work (legs3 t)

unfoldable pub true_transpose_compact_fc4 : List Float → ShiftTables → List ℕ → ℤ → Answer × List Float × List ℕ
true_transpose_compact_fc4 set T work t = true_transpose limit4 3 set T work (legs4 t)
