-- The rule of a report, whatever it is about: a family of c numbers that are all to be zero, S r the one at place r. Definitions only.
use Rattle.tables.specs.declared.Refusal.{Refusal}
use Rattle.std.specs.Prelude.{Err, Ok, Result, Bool, false, cond, ℕ, zero, suc, eqb, Float}
use Rattle.std.specs.Float.{nan, inf, fin}
use Rattle.std.specs.Float.Ieee.{lt, eq, is_nan}
use Rattle.lists.specs.Tab.{times}
use Rattle.lists.specs.Tests.{every, some}
use Rattle.lists.specs.Floats.{plus_zero}
use Rattle.tables.specs.Answers.{Answer}
use Rattle.reports.specs.declared.Deviation.{Deviation}
use Rattle.reports.specs.declared.Deviation.TheVariants.{Still, Worst, NoNumber}
use Rattle.reports.specs.declared.Report.{Report}

-- ---- floats

-- the absolute value
unfoldable pub absolute : Float → Float
absolute nan = nan
absolute (inf s) = inf false
absolute (fin s m e) = fin false m e

-- zero, of either sign
unfoldable pub is_zero : Float → Bool
is_zero nan = false
is_zero (inf s) = false
is_zero (fin s m e) = eqb m 0

-- the larger of two; the first where they are equal or the second is no number
abbrev pub larger : Float → Float → Float
larger x y = cond (lt x y) y x

-- the first number below n that passes the test, where one does
unfoldable pub first_of : ℕ → (ℕ → Bool) → ℕ
first_of zero f = 0
first_of (suc n) f = cond (some n f) (first_of n f) n

-- ---- the rule

-- the largest absolute value
unfoldable pub worst_of : ℕ → (ℕ → Float) → Float
worst_of c S = times c (λ r w. larger w (absolute (S r))) plus_zero

unfoldable pub deviation_in : ℕ → (ℕ → Float) → Deviation
deviation_in c S =
    cond (some c (λ r. is_nan (S r))) NoNumber
    (cond (every c (λ r. is_zero (S r))) Still
    (Worst (worst_of c S)))

-- a deviation with its place: of the worst the first number that has its absolute value, of no number the first that is none; `at` makes the report
abbrev pub placed_by : {R : Type 0} → R → (Deviation → ℕ → R) → ℕ → (ℕ → Float) → Deviation → R
placed_by still at c S Still = still
placed_by still at c S (Worst x) = at (Worst x) (first_of c (λ r. eq (absolute (S r)) x))
placed_by still at c S NoNumber = at NoNumber (first_of c (λ r. is_nan (S r)))

-- the report that names the place by its number in the order of the family
abbrev pub report_at : Deviation → ℕ → Report
report_at d r = record { deviation = d; index = r }

unfoldable pub report : ℕ → (ℕ → Float) → Report
report c S = placed_by (report_at Still 0) report_at c S (deviation_in c S)

-- the guard's refusal, or the report
abbrev pub reported_after : Answer → Report → Result Report Refusal
reported_after (Ok u) r = Ok r
reported_after (Err a) r = Err a

-- ---- the cases: a number for each, and its value

abbrev pub deviation_number : Deviation → ℕ
deviation_number Still = 0
deviation_number (Worst x) = 1
deviation_number NoNumber = 2

abbrev pub value_of : Deviation → Float
value_of Still = plus_zero
value_of (Worst x) = x
value_of NoNumber = nan
