-- The drift report of third order by values. Assumes nothing.
use Rattle.std.specs.Prelude.{Ok, ◌≡◌, refl, replicate, set, Float}
use Rattle.std.specs.Float.Ieee.{add, lt, eq, is_nan, of_bits}
use Rattle.std.specs.Float.{binary64}
use Rattle.lists.specs.Tab.{times}
use Rattle.lists.specs.Tests.{every, some}
use Rattle.lists.specs.Digits.{horner}
use Rattle.tables.specs.Lengths.{set_length}
use Rattle.lists.specs.Floats.{plus_zero}
use Rattle.places.specs.Places.{at, address}
use Rattle.places.specs.WholeLaws.{full_shifts}
use Rattle.reports.specs.declared.Deviation.TheVariants.{Worst}
use Rattle.reports.specs.Report.{absolute, is_zero, first_of, worst_of, deviation_in}
use Rattle.tables.specs.Full.{judged_full}
use Rattle.drift.specs.ThirdReport.{entry3, leg_sum, leg_of, sum_at3, drift_report_fc3}

abbrev one : Float
one = of_bits binary64 0x3FF0_0000_0000_0000

abbrev minus_one : Float
minus_one = of_bits binary64 0xBFF0_0000_0000_0000

-- one atom, all numbers zero but directions 0, 1, 2: the three sums share the worst, and the last leg's goes first
last-first : drift_report_fc3 (set (replicate 27 plus_zero) 5 one) 1 ≡ Ok (record { drift = Worst one; leg = 2; first = 0; second = 0; k = 0; l = 1; m = 2 })
unfolding drift_report_fc3 judged_full set_length deviation_in some every worst_of first_of times sum_at3 leg_sum leg_of entry3 at address horner full_shifts absolute is_zero is_nan lt eq add of_bits
last-first = refl

-- Two atoms, 1 at atoms (1, 0, 0) and -1 at (1, 0, 1), all directions 0: over the last leg they cancel, over the middle one they do not.
middle_found : drift_report_fc3 (set (set (replicate 216 plus_zero) 108 one) 135 minus_one) 2 ≡ Ok (record { drift = Worst one; leg = 1; first = 1; second = 0; k = 0; l = 0; m = 0 })
unfolding drift_report_fc3 judged_full set_length deviation_in some every worst_of first_of times sum_at3 leg_sum leg_of entry3 at address horner full_shifts absolute is_zero is_nan lt eq add of_bits
middle_found = refl
