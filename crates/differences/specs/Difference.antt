-- The difference report: how far the numbers differ that the permutations of the same legs read out. One definition for every rank: a set of second,
-- third or fourth order has m + 1 legs, m = 1, 2, 3, and `os` lists their permutations. Definitions only.
use Rattle.tables.specs.declared.Refusal.{Refusal}
use Rattle.std.specs.Prelude.{Result, List, [], ℕ, ◌*◌, ◌/◌, ◌%◌, length, get_or, Float}
use Rattle.std.specs.Float.{nan, binary64}
use Rattle.std.specs.Float.Ieee.{sub}
use Rattle.tables.specs.Shifts.{Shifts}
use Rattle.tables.specs.Full.{judged_full}
use Rattle.tables.specs.Compact.{ShiftTables, shifts_of, judged_set}
use Rattle.places.specs.Places.{size, full_shifts}
use Rattle.audits.specs.Audit.{reads}
use Rattle.reports.specs.declared.Report.{Report}
use Rattle.reports.specs.Report.{report, reported_after}

module _ (S : Shifts) (m : ℕ) (os : List (List ℕ)) (set : List Float) where
  -- what permutation i reads out of the legs whose number stands at address q, minus that number
  unfoldable pub difference : ℕ → ℕ → Float
  difference q i = sub binary64 (reads S m os set q (get_or os i [])) (get_or set q nan)

  -- the places in order: the address, then the permutation
  abbrev pub difference_at : ℕ → Float
  difference_at r = difference (r / length os) (r % length os)

  abbrev pub order_report : Report
  order_report = report (size S m * length os) difference_at

-- the calls: of a compact set, and of a full set, in which every atom is its own representative
unfoldable pub difference_report_compact : ℕ → ℕ → List (List ℕ) → List Float → ShiftTables → Result Report Refusal
difference_report_compact limit m os set T = reported_after (judged_set limit m (length set) [] T) (order_report (shifts_of T) m os set)

unfoldable pub difference_report_full : ℕ → ℕ → List (List ℕ) → List Float → ℕ → Result Report Refusal
difference_report_full limit m os set n = reported_after (judged_full limit m (length set) [] n) (order_report (full_shifts n) m os set)
