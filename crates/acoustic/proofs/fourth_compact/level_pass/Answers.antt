use lib.ListN.{length}
use Rattle.tables.specs.Compact.{ShiftTables, shifts_of, given}
use Rattle.places.specs.Places.{perms4}
use Rattle.fc4.specs.Mean24.{mean24}
use Rattle.acoustic.specs.Calls.{one_level_lem}
use Rattle.acoustic.specs.Fourth.{compact_call}
use Rattle.acoustic.proofs.fourth_compact.level_pass.Goals as goal

pub legs_off-requires : goal.legs_off-requires
legs_off-requires c = c.requires.work.room

pub returns : goal.returns
returns c =
    let a = c.args in
    let T : ShiftTables = given a.tables.now in
    one_level_lem mean24 (shifts_of T) 3 perms4 a.fc4.now c.legs_off.ensures (compact_call _ T a.done.now (length a.fc4.now) c.legs_off.auto.fc4 c.requires.passes c.set_permutation_symmetry_compact_fc4.ensures)
