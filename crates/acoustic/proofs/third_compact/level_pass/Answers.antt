use Rattle.tables.specs.Compact.{ShiftTables, shifts_of, given}
use Rattle.places.specs.Places.{perms3}
use Rattle.orbits.specs.Symmetric.{mean6}
use Rattle.acoustic.specs.Calls.{one_level_lem, compact_ready}
use Rattle.acoustic.proofs.third_compact.level_pass.Goals as goal

pub legs_off-requires : goal.legs_off-requires
legs_off-requires c = c.requires.room

pub symmetrize-requires : goal.symmetrize-requires
symmetrize-requires c = rw c.legs_off.auto.fc3 (compact_ready _ _ _ _ c.requires)

pub returns : goal.returns
returns c =
    let a = c.args in
    let T : ShiftTables = given a.tables.now in
    one_level_lem mean6 (shifts_of T) 2 perms3 a.fc3.now c.legs_off.ensures c.symmetrize.ensures.0
