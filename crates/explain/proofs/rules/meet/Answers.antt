use mathlib.Core.Path.{ap₂, ◌∙◌}
use lib.Dec.{eqb}
use Rattle.tables.specs.Compact.{ShiftTables, shifts_of, perms_is, given}
use Rattle.explain.specs.Laws.{perms-read}
use Rattle.explain.proofs.rules.meet.Goals as goal

pub perms_at-x-requires : goal.perms_at-x-requires
perms_at-x-requires c =
    let a = c.args in
    let T : ShiftTables = given a.tables.now in
    perms-read T c.requires.0 a.t a.a c.requires.1 c.requires.2

pub perms_at-y-requires : goal.perms_at-y-requires
perms_at-y-requires c =
    let a = c.args in
    let T : ShiftTables = given a.tables.now in
    perms-read T c.requires.0 a.u a.b c.requires.3 c.requires.4

pub returns : goal.returns
returns c =
    let a = c.args in
    let T : ShiftTables = given a.tables.now in
    let S = shifts_of T in
    c.eq.ensures ∙ ap₂ eqb (c.perms_at-x.ensures ∙ perms_is T a.t a.a) (c.perms_at-y.ensures ∙ perms_is T a.u a.b)
