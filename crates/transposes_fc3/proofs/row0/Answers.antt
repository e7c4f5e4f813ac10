use mathlib.Core.Path.{sym, ◌∙◌}
use Rattle.tables.specs.Compact.{given}
use Rattle.orbits.specs.HalfShift.{rep-read}
use Rattle.transposes_fc3.specs.Fc3Loops.{row_stays, row-moves}
use Rattle.transposes_fc3.proofs.row0.Goals as goal

pub stays-requires : goal.stays-requires
stays-requires c =
    record { sound = c.requires.trading.sound; in_range = c.requires.in_range }

pub returns-then-stays : goal.returns-then-stays
returns-then-stays c =
    let a = c.args in
    let T = given a.tables.now in
    row_stays a.half_shifts_stay T c.requires.trading.sound a.p.0 a.j.0 c.requires.in_range.0 c.requires.in_range.1 (sym c.stays.ensures ∙ c.if-stays.true) a.fc3.now

pub p2s_at-i-requires : goal.p2s_at-i-requires
p2s_at-i-requires c =
    (rep-read _ c.requires.trading.sound c.args.p.0 c.requires.in_range.0).0

pub line0-requires : goal.line0-requires
line0-requires c =
    record { trading = c.requires.trading; first = c.requires.in_range.0; second = c.requires.in_range.1; rep = c.p2s_at-i.ensures }

pub returns : goal.returns
returns c =
    let a = c.args in
    let T = given a.tables.now in
    c.line0.ensures ∙ row-moves a.half_shifts_stay T c.requires.trading.sound a.p.0 a.j.0 c.requires.in_range.0 c.requires.in_range.1 (sym c.stays.ensures ∙ c.if-stays.false) a.fc3.now
