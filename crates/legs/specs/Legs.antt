-- The drift report over the rank: the sums over each leg of the read-out. A set of second, third or fourth order has m + 1 legs, m = 1, 2, 3.
-- Definitions only.
use Rattle.tables.specs.declared.Refusal.{Refusal}
use Rattle.std.specs.Prelude.{Result, List, [], ◌∷◌, ℕ, zero, suc, ◌*◌, ◌-◌, ◌/◌, ◌%◌, length, Float}
use Rattle.std.specs.Float.{nan, binary64}
use Rattle.std.specs.Float.Ieee.{add}
use Rattle.lists.specs.Tab.{times}
use Rattle.lists.specs.Floats.{plus_zero}
use Rattle.lists.specs.Digits.{times_power, digits}
use Rattle.tables.specs.Shifts.{Shifts}
use Rattle.tables.specs.Full.{judged_full}
use Rattle.tables.specs.Compact.{ShiftTables, shifts_of, judged_set}
use Rattle.places.specs.Places.{legs_of, read_out, in_block, full_shifts}
use Rattle.reports.specs.declared.Report.{Report}
use Rattle.reports.specs.Report.{report, reported_after}

-- atom i as that of leg `leg`, ks the atoms of the other legs
unfoldable pub insert_at : ℕ → ℕ → List ℕ → List ℕ
insert_at zero i ks = i ∷ ks
insert_at (suc leg) i [] = i ∷ []
insert_at (suc leg) i (k ∷ ks) = k ∷ insert_at leg i ks

module _ (S : Shifts) (m : ℕ) (set : List Float) where
  -- The sum over leg `leg`, from 0.0, rising: the digits of t are the atoms of the other legs, those of k the directions of all.
  unfoldable pub leg_sum : ℕ → ℕ → ℕ → Float
  leg_sum leg t k =
      let n = S.n_satom in
      times n (λ i s. add binary64 s (read_out nan S set (legs_of (insert_at leg i (digits n m t)) (digits 3 (suc m) k)))) plus_zero

  -- how many atoms the other legs can have
  abbrev pub others : ℕ
  others = times_power S.n_satom m 1

  -- The places in order: the sums over the last leg first, as rows come before columns at second order, then the other atoms, then the directions.
  abbrev pub leg_sum_at : ℕ → Float
  leg_sum_at z =
      let line = z / in_block m in
      leg_sum (m - line / others) (line % others) (z % in_block m)

  abbrev pub leg_report : Report
  leg_report = report (suc m * others * in_block m) leg_sum_at

-- the calls: of a compact set, and of a full set, in which every atom is its own representative
unfoldable pub leg_report_compact : ℕ → ℕ → List Float → ShiftTables → Result Report Refusal
leg_report_compact limit m set T = reported_after (judged_set limit m (length set) [] T) (leg_report (shifts_of T) m set)

unfoldable pub leg_report_full : ℕ → ℕ → List Float → ℕ → Result Report Refusal
leg_report_full limit m set n = reported_after (judged_full limit m (length set) [] n) (leg_report (full_shifts n) m set)
