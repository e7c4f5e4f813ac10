-- The drift report of a full set of third order: the sums over each of its legs, by the rule of the report at second order (crate `drift`). Definitions only.
use Rattle.tables.specs.declared.Refusal.{Refusal}
use Rattle.std.specs.Prelude.{Err, Ok, Result, List, [], ◌∷◌, cond, ℕ, zero, suc, ◌*◌, ◌/◌, ◌%◌, eqb, length, Float}
use Rattle.std.specs.Float.{nan, binary64}
use Rattle.std.specs.Float.Ieee.{add}
use Rattle.lists.specs.Tab.{times}
use Rattle.tables.specs.Answers.{Answer}
use Rattle.tables.specs.Limits.{limit3}
use Rattle.places.specs.Places.{at}
use Rattle.places.specs.WholeLaws.{full_shifts}
use Rattle.lists.specs.Floats.{plus_zero}
use Rattle.reports.specs.declared.Deviation.{Deviation}
use Rattle.reports.specs.declared.Deviation.TheVariants.{Still}
use Rattle.reports.specs.Report.{deviation_in, placed_by}
use Rattle.tables.specs.Full.{judged_full}
use Rattle.drift.specs.declared.third.LegReport.{LegReport}

-- the number of a set for atoms h, i, j and directions k, l, m
unfoldable pub entry3 : ℕ → List Float → ℕ → ℕ → ℕ → ℕ → ℕ → ℕ → Float
entry3 n xs h i j k l m = at nan (full_shifts n) xs ((h, k) ∷ (i, l) ∷ (j, m) ∷ [])

-- the sum over leg 0, 1 or 2, from 0.0, rising; a and b are the atoms of the two other legs
unfoldable pub leg_sum : ℕ → List Float → ℕ → ℕ → ℕ → ℕ → ℕ → ℕ → Float
leg_sum n xs zero a b k l m = times n (λ i s. add binary64 s (entry3 n xs i a b k l m)) plus_zero
leg_sum n xs (suc zero) a b k l m = times n (λ i s. add binary64 s (entry3 n xs a i b k l m)) plus_zero
leg_sum n xs (suc (suc _)) a b k l m = times n (λ i s. add binary64 s (entry3 n xs a b i k l m)) plus_zero

-- Places are ordered as at second order: the sums over the last leg first, as rows come before columns there, then by atoms and directions.
unfoldable pub leg_of : ℕ → ℕ
leg_of t = cond (eqb t 0) 2 (cond (eqb t 1) 1 0)

abbrev pub sums3 : ℕ → ℕ
sums3 n = n * n * 81

unfoldable pub sum_at3 : ℕ → List Float → ℕ → Float
sum_at3 n xs r = leg_sum n xs (leg_of (r / 27 / n / n)) (r / 27 / n % n) (r / 27 % n) (r % 27 / 9) (r % 9 / 3) (r % 3)

-- the report whose place is that of sum r
abbrev pub report_at3 : ℕ → Deviation → ℕ → LegReport
report_at3 n d r = record { drift = d; leg = leg_of (r / 27 / n / n); first = r / 27 / n % n; second = r / 27 % n; k = r % 27 / 9; l = r % 9 / 3; m = r % 3 }

abbrev pub still_report3 : LegReport
still_report3 = record { drift = Still; leg = 2; first = 0; second = 0; k = 0; l = 0; m = 0 }

-- the guard's refusal, or the report
abbrev pub reported_after3 : Answer → LegReport → Result LegReport Refusal
reported_after3 (Ok u) r = Ok r
reported_after3 (Err a) r = Err a

-- the call's answer
unfoldable pub drift_report_fc3 : List Float → ℕ → Result LegReport Refusal
drift_report_fc3 xs n =
    let S = sum_at3 n xs in
    reported_after3 (judged_full limit3 2 (length xs) [] n) (placed_by still_report3 (report_at3 n) (sums3 n) S (deviation_in (sums3 n) S))
