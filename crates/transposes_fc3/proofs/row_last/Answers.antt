use native.Mathlib.Omega.{arith}
use mathlib.Core.Path.{◌≡◌, sym, ap, ◌∙◌}
use Rattle.tables.specs.Compact.{given}
use Rattle.transposes_fc3.specs.Fc3Loops.{row_t, row_2}
use Rattle.transposes_fc3.proofs.row_last.Goals as goal

pub row1-requires : goal.row1-requires
row1-requires c = record { trading = c.requires.trading; in_range = (c.requires.in_range.0, c.requires.in_range.1) }

pub returns-then-t-eq1 : goal.returns-then-t-eq1
returns-then-t-eq1 c =
    let a = c.args in
    let T = given a.tables.now in
    let e : a.t ≡ 1 = c.if-t-eq1.true in
    c.row1.ensures ∙ ap (λ t. row_t a.half_shifts_stay T t a.p.0 a.j.0 a.fc3.now) (sym e)

pub row2-requires : goal.row2-requires
row2-requires c = record { trading = c.requires.trading; in_range = (c.requires.in_range.0, c.requires.in_range.1) }

pub returns : goal.returns
returns c =
    let a = c.args in
    let T = given a.tables.now in
    let e : a.t ≡ 2 = omega arith in
    c.row2.ensures ∙ row_2 a.half_shifts_stay T a.p.0 a.j.0 a.fc3.now ∙ ap (λ t. row_t a.half_shifts_stay T t a.p.0 a.j.0 a.fc3.now) (sym e)
