use Rattle.tables.specs.Compact.{ShiftTables, shifts_of, given}
use Rattle.places.specs.Places.{perms3}
use Rattle.orbits.specs.Symmetric.{mean6}
use Rattle.acoustic.specs.Calls.{no_level, some_levels, compact_ready}
use Rattle.acoustic.proofs.third_compact.all_levels.Goals as goal

pub symmetrize-requires : goal.symmetrize-requires
symmetrize-requires c = compact_ready _ _ _ _ c.requires

pub returns-then-level-eq0 : goal.returns-then-level-eq0
returns-then-level-eq0 c =
    let a = c.args in
    let T : ShiftTables = given a.tables.now in
    no_level mean6 (shifts_of T) 2 perms3 a.fc3.now a.level c.if-level-eq0.true c.symmetrize.ensures.0

pub levels-requires : goal.levels-requires
levels-requires c = c.requires

pub returns : goal.returns
returns c =
    let a = c.args in
    let T : ShiftTables = given a.tables.now in
    some_levels mean6 (shifts_of T) 2 perms3 a.fc3.now a.level c.if-level-eq0.false c.levels.ensures
