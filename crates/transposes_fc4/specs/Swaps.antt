-- `swap_pairs_compact_fc4` (document 02, A.2): what the call answers and what it leaves. Two legs are named, and the pairs (atom, direction) of these
-- legs change places in every read-out entry, half shifts included. Definitions only.
use Rattle.std.specs.Prelude.{Ok, not, ◌||◌, List, [], ◌∷◌, ℕ, length, replicate, Float}
use Rattle.tables.specs.Answers.{Answer}
use Rattle.tables.specs.declared.Refusal.TheVariants.{CountAboveLimit, WrongLength, IndexOutOfRange, BadShiftTables}
use Rattle.tables.specs.Answers.{after, refuse_if}
use Rattle.tables.specs.Conditions.{any_above, any_wrong}
use Rattle.tables.specs.Shifts.{ruled}
use Rattle.tables.specs.Compact.{ShiftTables, shifts_of, table_lengths, tables_out_of_range}
use Rattle.tables.specs.Lengths.{set_blocks, set_length}
use Rattle.tables.specs.Limits.{limit4}
use Rattle.orbits.specs.TrueTransposes.{swapped}

-- 1: counts above 64. 2: the set is one of fourth order, the work slice has n_patom × n_satom bytes. 3: a leg above 3, or an index out of range.
-- 6: the rules of shift tables.
unfoldable pub judged_swap : ℕ → ℕ → ShiftTables → ℕ → ℕ → Answer
judged_swap lenSet lenWork T a b =
    refuse_if (any_above limit4 (T.n_satom ∷ T.n_patom ∷ T.num_trans ∷ [])) CountAboveLimit
    (refuse_if (any_wrong ((lenSet, set_length T.n_patom T.n_satom 3) ∷ (lenWork, set_blocks T.n_patom T.n_satom 1) ∷ []) || any_wrong (table_lengths T)) WrongLength
    (refuse_if (any_above 3 (a ∷ b ∷ []) || tables_out_of_range T) IndexOutOfRange
    (refuse_if (not (ruled (shifts_of T))) BadShiftTables (Ok tt))))

-- the call: the answer, the set and the work slice; with equal legs nothing moves
unfoldable pub swap_pairs_compact_fc4 : List Float → ShiftTables → List ℕ → ℕ → ℕ → Answer × List Float × List ℕ
swap_pairs_compact_fc4 set T work a b =
    let r = judged_swap (length set) (length work) T a b in
    (r, after r (swapped (shifts_of T) 3 (a, b) set) set, after r (replicate (length work) 0) work)
