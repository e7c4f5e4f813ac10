-- The drift report of a full set (document 01, "Drift report"; document 02, A.4). Definitions only.
use Rattle.tables.specs.declared.Refusal.{Refusal}
use Rattle.std.specs.Prelude.{Err, Ok, Result, List, [], cond, ℕ, ◌-◌, ◌*◌, ◌/◌, ◌%◌, ltb, length, Float}
use Rattle.tables.specs.Answers.{Answer}
use Rattle.tables.specs.Full.{judged_full}
use Rattle.tables.specs.Limits.{limit2}
use Rattle.fc2.specs.Full.{row_sum, column_sum}
use Rattle.reports.specs.Report.{deviation_in, placed_by}
use Rattle.reports.specs.declared.Deviation.{Deviation}
use Rattle.reports.specs.declared.Deviation.TheVariants.{Still}
use Rattle.drift.specs.declared.Along.{Along}
use Rattle.drift.specs.declared.Along.TheVariants.{Rows, Columns}
use Rattle.drift.specs.declared.DriftReport.{DriftReport}

-- ---- the cases

abbrev pub along_number : Along → ℕ
along_number Rows = 0
along_number Columns = 1

-- what the call answers: done, with a report, or a refusal
abbrev pub answer_of : Result DriftReport Refusal → Answer
answer_of (Ok r) = Ok tt
answer_of (Err r) = Err r

-- the guard's refusal, or the report
abbrev pub reported_after : Answer → DriftReport → Result DriftReport Refusal
reported_after (Ok u) r = Ok r
reported_after (Err a) r = Err a

-- ---- the sums, in the order of their places

-- the sum of a row, over the second atom, or of a column, over the first
unfoldable pub line_sum : ℕ → List Float → Along → ℕ → ℕ → ℕ → Float
line_sum n xs Rows i k l = row_sum n xs i k l
line_sum n xs Columns j k l = column_sum n xs j k l

-- Rows come first, then the atoms rise: line q of a set is row q, and from n on column q - n.
abbrev pub along_of : ℕ → ℕ → Along
along_of n q = cond (ltb q n) Rows Columns

abbrev pub atom_of : ℕ → ℕ → ℕ
atom_of n q = cond (ltb q n) q (q - n)

-- In each line the directions rise: sum r is that of line r / 9 and of directions r % 9 / 3 and r % 9 % 3. There are 2 n × 9 of them.
unfoldable pub sum_at : ℕ → List Float → ℕ → Float
sum_at n xs r = line_sum n xs (along_of n (r / 9)) (atom_of n (r / 9)) (r % 9 / 3) (r % 9 % 3)

abbrev pub sum_count : ℕ → ℕ
sum_count n = n * 2 * 9

-- ---- the report of a full set of second order

abbrev pub drift_of : ℕ → List Float → Deviation
drift_of n xs = deviation_in (sum_count n) (sum_at n xs)

-- the report whose place is that of sum r
abbrev pub report_at : ℕ → Deviation → ℕ → DriftReport
report_at n d r = record { drift = d; along = along_of n (r / 9); atom = atom_of n (r / 9); k = r % 9 / 3; l = r % 9 % 3 }

abbrev pub still_report : DriftReport
still_report = record { drift = Still; along = Rows; atom = 0; k = 0; l = 0 }

abbrev pub placed_report : ℕ → List Float → Deviation → DriftReport
placed_report n xs d = placed_by still_report (report_at n) (sum_count n) (sum_at n xs) d

-- the call's answer
unfoldable pub drift_report : List Float → ℕ → Result DriftReport Refusal
drift_report xs n = reported_after (judged_full limit2 1 (length xs) [] n) (placed_report n xs (drift_of n xs))
