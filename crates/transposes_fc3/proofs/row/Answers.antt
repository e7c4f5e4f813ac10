use mathlib.Core.Path.{◌≡◌, sym, ap, ◌∙◌}
use Rattle.tables.specs.Compact.{given}
use Rattle.transposes_fc3.specs.Fc3Loops.{row_t}
use Rattle.transposes_fc3.proofs.row.Goals as goal

pub row0-requires : goal.row0-requires
row0-requires c = record { trading = c.requires.trading; in_range = (c.requires.in_range.0, c.requires.in_range.1) }

pub returns-then-t-eq0 : goal.returns-then-t-eq0
returns-then-t-eq0 c =
    let a = c.args in
    let T = given a.tables.now in
    let e : a.t ≡ 0 = c.if-t-eq0.true in
    c.row0.ensures ∙ ap (λ t. row_t a.half_shifts_stay T t a.p.0 a.j.0 a.fc3.now) (sym e)

pub row_last-requires : goal.row_last-requires
row_last-requires c = record { trading = c.requires.trading; in_range = (c.requires.in_range.0, c.requires.in_range.1, c.requires.in_range.2, c.if-t-eq0.false) }

pub returns : goal.returns
returns c = c.row_last.ensures
