use Rattle.tables.specs.Compact.{ShiftTables, given}
use Rattle.acoustic.specs.Laws.{leg4_made}
use Rattle.acoustic.proofs.fourth.leg_off.Goals as goal

pub drifts-requires : goal.drifts-requires
drifts-requires c = (c.requires.0, c.requires.1)

pub rows_off-requires : goal.rows_off-requires
rows_off-requires c = (rw c.drifts.auto.drift c.requires.0, c.requires.1)

pub returns : goal.returns
returns c =
    let a = c.args in
    let T : ShiftTables = given a.tables.now in
    leg4_made T a.leg c.requires.1 a.fc4.now a.drift.now c.requires.0 c.drifts.ensures c.rows_off.ensures
