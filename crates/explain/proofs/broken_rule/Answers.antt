use Rattle.tables.specs.Compact.{ShiftTables, shifts_of, given}
use mathlib.Core.Path.{◌∙◌}
use Rattle.explain.specs.Guarded.{rule-below, first_below, second_below, rule-named}
use Rattle.explain.proofs.broken_rule.Goals as goal

pub first_broken-r-requires : goal.first_broken-r-requires
first_broken-r-requires c = c.requires.0

pub first_of-i-requires : goal.first_of-i-requires
first_of-i-requires c =
    let a = c.args in
    let T : ShiftTables = given a.tables.now in
    let p = c.requires in
    let S = shifts_of T in
    (p.0, rule-below S p.1 c.first_broken-r.ensures)

pub second_of-j-requires : goal.second_of-j-requires
second_of-j-requires c =
    let a = c.args in
    let T : ShiftTables = given a.tables.now in
    let p = c.requires in
    let S = shifts_of T in
    (p.0, rule-below S p.1 c.first_broken-r.ensures, first_below S p.1 c.first_broken-r.ensures c.first_of-i.ensures)

pub third_of-k-requires : goal.third_of-k-requires
third_of-k-requires c =
    let a = c.args in
    let T : ShiftTables = given a.tables.now in
    let p = c.requires in
    let S = shifts_of T in
    let e = c.first_broken-r.ensures in
    (p.0, rule-below S p.1 e, first_below S p.1 e c.first_of-i.ensures, second_below S p.1 e c.first_of-i.ensures c.second_of-j.ensures)

pub returns : goal.returns
returns c =
    let a = c.args in
    let T : ShiftTables = given a.tables.now in
    let p = c.requires in
    let S = shifts_of T in
    c.because.ensures ∙ rule-named S p.1 c.first_broken-r.ensures c.first_of-i.ensures c.second_of-j.ensures c.third_of-k.ensures
