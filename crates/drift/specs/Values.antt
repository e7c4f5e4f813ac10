-- The drift report by values. Assumes nothing.
use Rattle.std.specs.Prelude.{Ok, ◌≡◌, refl, true, List, [], ℕ, replicate, set, Float}
use Rattle.std.proofs.Common.{arith, lit<}
use Rattle.std.specs.Float.{nan, binary64}
use Rattle.std.specs.Float.Ieee.{add, lt, eq, is_nan, of_bits}
use Rattle.lists.specs.Tab.{times}
use Rattle.lists.specs.Tests.{every, some, not-both}
use Rattle.lists.specs.Digits.{horner}
use Rattle.tables.specs.Full.{judged_full}
use Rattle.tables.specs.Lengths.{set_length}
use Rattle.lists.specs.Floats.{plus_zero}
use Rattle.places.specs.Places.{at, address}
use Rattle.places.specs.WholeLaws.{full_shifts}
use Rattle.fc2.specs.Full.{full_entry, row_sum, column_sum}
use Rattle.reports.specs.declared.Deviation.TheVariants.{Still, Worst, NoNumber}
use Rattle.drift.specs.declared.Along.TheVariants.{Rows, Columns}
use Rattle.drift.specs.declared.DriftReport.{DriftReport}
use Rattle.drift.specs.Drift.{line_sum, sum_at, drift_report}
use Rattle.reports.specs.Report.{absolute, is_zero, first_of, worst_of, deviation_in}
use Rattle.drift.specs.Worst.{rank, worst_named, none_named, none_due}

abbrev one : Float
one = of_bits binary64 0x3FF0_0000_0000_0000

abbrev two : Float
two = of_bits binary64 0x4000_0000_0000_0000

-- two atoms, all numbers zero but place r, or places r and q
abbrev with : ℕ → Float → List Float
with r x = set (replicate 36 plus_zero) r x

abbrev with_both : ℕ → Float → ℕ → Float → List Float
with_both r x q y = set (with r x) q y

-- no atoms, and no drift: a still report says rows
none-still : drift_report [] 0 ≡ Ok (record { drift = Still; along = Rows; atom = 0; k = 0; l = 0 })
unfolding drift_report judged_full set_length deviation_in some every
none-still = refl

-- 1 in blocks (0, 0) and (1, 0), at directions 1 and 2: both row sums are 1, the sum of column 0 is 2
column_worst : drift_report (with_both 5 one 23 one) 2 ≡ Ok (record { drift = Worst two; along = Columns; atom = 0; k = 1; l = 2 })
unfolding drift_report judged_full set_length deviation_in some every worst_of first_of times sum_at line_sum row_sum column_sum full_entry at address horner full_shifts absolute is_zero is_nan lt eq add of_bits
column_worst = refl

-- 1 in block (1, 0): row 1 and column 0 share the worst, and the row goes first
row_first : drift_report (with 22 one) 2 ≡ Ok (record { drift = Worst one; along = Rows; atom = 1; k = 1; l = 1 })
unfolding drift_report judged_full set_length deviation_in some every worst_of first_of times sum_at line_sum row_sum column_sum full_entry at address horner full_shifts absolute is_zero is_nan lt eq add of_bits
row_first = refl

-- NaN in block (1, 0): the row goes first, although the column's atom is lower
none_first : drift_report (with_both 22 nan 0 two) 2 ≡ Ok (record { drift = NoNumber; along = Rows; atom = 1; k = 1; l = 1 })
unfolding drift_report judged_full set_length deviation_in some every worst_of first_of times sum_at line_sum row_sum column_sum full_entry at address horner full_shifts absolute is_zero is_nan lt eq add of_bits
none_first = refl

-- ---- the laws used, where two places qualify

-- the sum of column 0 is 1 as well as that of row 1: by the law the column cannot be named
pub not_the_column : (q : DriftReport) → drift_report (with 22 one) 2 ≡ Ok q → q.drift ≡ Worst one → rank 2 q.along q.atom q.k q.l ≡ rank 2 Columns 0 1 1 → ⊥
unfolding line_sum row_sum column_sum times full_entry at address horner full_shifts absolute eq is_nan add of_bits
not_the_column q told e r =
    let has : eq (absolute (line_sum 2 (with 22 one) Rows 1 1 1)) one ≡ true = refl in
    not-both has ((worst_named (with 22 one) 2 q told one e).1.none_before Rows 1 1 1 (record { atom = lit< tt; first = lit< tt; second = lit< tt }) (omega (arith, r)))

-- NaN in block (1, 0) makes the sums of row 1 and of column 0 no number: by the law the report is no number, although a sum is 2, and it cannot name the column
pub none-not_worst : (q : DriftReport) → drift_report (with_both 22 nan 0 two) 2 ≡ Ok q → (q.drift ≡ NoNumber) × (rank 2 q.along q.atom q.k q.l ≡ rank 2 Columns 0 1 1 → ⊥)
unfolding line_sum row_sum column_sum times full_entry at address horner full_shifts absolute eq is_nan add of_bits
none-not_worst q told =
    let none : is_nan (line_sum 2 (with_both 22 nan 0 two) Rows 1 1 1) ≡ true = refl in
    let due = none_due (with_both 22 nan 0 two) 2 q told Rows 1 1 1 (record { atom = lit< tt; first = lit< tt; second = lit< tt }) none in
    (due, λ r. not-both none ((none_named (with_both 22 nan 0 two) 2 q told due).none_before Rows 1 1 1 (record { atom = lit< tt; first = lit< tt; second = lit< tt }) (omega (arith, r))))
