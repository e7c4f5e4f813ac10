-- Compact sets of second order (document 01, "Second order", "Shift tables"): what the two calls leave, by the passes of crate `fc2_compact`. Assumes nothing.
use Rattle.std.specs.Prelude.{Bool, cond, List, ℕ, length, replicate, ltb, Float}
use Rattle.lists.specs.Tab.{times}
use Rattle.tables.specs.Answers.{Answer}
use Rattle.tables.specs.declared.Refusal.TheVariants.{CountAboveLimit}
use Rattle.tables.specs.Answers.{after, refuse_if}
use Rattle.tables.specs.Limits.{limit2, limit_level}
use Rattle.tables.specs.Shifts.{Shifts}
use Rattle.tables.specs.Compact.{ShiftTables, shifts_of, judged_compact}
use Rattle.fc2_compact.specs.Passes.{transposed, averaged_compact, without_row_drift_compact, on_site}

-- ---- perm_trans_symmetrize_compact_fc

-- one level: twice the transpose and the row drift, then the averages
unfoldable pub leveled : Shifts → List Float → List Float
leveled S set = averaged_compact S (without_row_drift_compact S (transposed S (without_row_drift_compact S (transposed S set))))

unfoldable pub symmetrized_compact : Shifts → ℕ → List Float → List Float
symmetrized_compact S level set = on_site S (times level (λ _. leveled S) set)

-- ---- the calls: the answer, the set and the work bytes that they leave

-- both have n_patom × n_satom × 9 numbers and n_patom × n_satom work bytes
abbrev pub judged2 : List Float → ShiftTables → List ℕ → Answer
judged2 set T done = judged_compact limit2 1 (length set) 1 (length done) T

-- and the level is a count with its own limit
abbrev pub judged_levels : List Float → ShiftTables → List ℕ → ℕ → Answer
judged_levels set T done level = refuse_if (ltb limit_level level) CountAboveLimit (judged2 set T done)

unfoldable pub set_index_permutation_symmetry_compact_fc : List Float → ShiftTables → List ℕ → Bool → Answer × List Float × List ℕ
set_index_permutation_symmetry_compact_fc set T done transpose =
    let a = judged2 set T done in
    (a, after a (cond transpose (transposed (shifts_of T) set) (averaged_compact (shifts_of T) set)) set, after a (replicate (length done) 0) done)

unfoldable pub perm_trans_symmetrize_compact_fc : List Float → ShiftTables → List ℕ → ℕ → Answer × List Float × List ℕ
perm_trans_symmetrize_compact_fc set T done level =
    let a = judged_levels set T done level in
    (a, after a (symmetrized_compact (shifts_of T) level set) set, after a (replicate (length done) 0) done)
