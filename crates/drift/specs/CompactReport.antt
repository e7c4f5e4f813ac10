-- The drift report of a compact set of second order: that of the full set which it reads out to (document 02, A.4, of A.11's full set). Definitions only.
use Rattle.drift.specs.declared.DriftReport.{DriftReport}
use Rattle.tables.specs.declared.Refusal.{Refusal}
use Rattle.std.specs.Prelude.{Result, List, [], length, Float}
use Rattle.std.specs.Float.{nan}
use Rattle.tables.specs.Limits.{limit2}
use Rattle.tables.specs.Compact.{ShiftTables, shifts_of, judged_set}
use Rattle.read_out.specs.FullSet.{full_set}
use Rattle.drift.specs.Drift.{drift_of, placed_report, reported_after}

-- the call's answer
unfoldable pub drift_report_compact_fc2 : List Float → ShiftTables → Result DriftReport Refusal
drift_report_compact_fc2 set T =
    let n = T.n_satom in
    let full = full_set nan (shifts_of T) 1 set in
    reported_after (judged_set limit2 1 (length set) [] T) (placed_report n full (drift_of n full))
