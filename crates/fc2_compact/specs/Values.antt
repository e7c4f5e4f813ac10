-- The limit of the level, by values, with no atoms and no shift, which rule 6 refuses. Assumes nothing.
use Rattle.std.specs.Prelude.{Err, ◌≡◌, refl, []}
use Rattle.lists.specs.Tests.{every, some}
use Rattle.tables.specs.declared.Refusal.TheVariants.{CountAboveLimit, BadShiftTables}
use Rattle.tables.specs.Conditions.{out_of_range}
use Rattle.tables.specs.Lengths.{set_length, set_blocks}
use Rattle.tables.specs.Shifts.{counts_agree, rows_injective, has_null, ruled}
use Rattle.tables.specs.Compact.{shift_tables, judged_entries, judged_tables, judged_compact}
use Rattle.fc2_compact.specs.Compact.{judged_levels}

pub level_limit : (judged_levels [] (shift_tables [] [] [] [] 0 0 0) [] 1001 ≡ Err CountAboveLimit) × (judged_levels [] (shift_tables [] [] [] [] 0 0 0) [] 1000 ≡ Err BadShiftTables)
unfolding judged_compact set_length set_blocks judged_tables judged_entries out_of_range ruled counts_agree rows_injective has_null every some
level_limit = (refl, refl)
