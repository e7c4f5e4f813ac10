use mathlib.Core.Path.{refl}
use lib.ListN.{length}
use Rattle.tables.specs.Compact.{ShiftTables, shifts_of, given}
use Rattle.places.specs.Places.{perms4}
use Rattle.fc4.specs.Mean24.{mean24}
use Rattle.acoustic.specs.Calls.{no_level, some_levels}
use Rattle.acoustic.specs.Fourth.{compact_call}
use Rattle.acoustic.proofs.fourth_compact.all_levels.Goals as goal

pub returns-then-level-eq0 : goal.returns-then-level-eq0
returns-then-level-eq0 c =
    let a = c.args in
    let T : ShiftTables = given a.tables.now in
    no_level mean24 (shifts_of T) 3 perms4 a.fc4.now a.level c.if-level-eq0.true (compact_call a.fc4.now T a.done.now (length a.fc4.now) refl c.requires.passes c.set_permutation_symmetry_compact_fc4.ensures)

pub levels-requires : goal.levels-requires
levels-requires c = c.requires

pub returns : goal.returns
returns c =
    let a = c.args in
    let T : ShiftTables = given a.tables.now in
    some_levels mean24 (shifts_of T) 3 perms4 a.fc4.now a.level c.if-level-eq0.false c.levels.ensures
