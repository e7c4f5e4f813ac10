use mathlib.Core.Path.{ap, ap₂, ◌∙◌}
use lib.Dec.{eqb}
use Rattle.tables.specs.Shifts.{s2pp_at}
use Rattle.tables.specs.Compact.{ShiftTables, shifts_of, perms_is, s2pp_is, given}
use Rattle.explain.specs.Laws.{perms-read, image-below, s2pp-read}
use Rattle.explain.proofs.rules.keeps_prim.Goals as goal

pub perms_at-requires : goal.perms_at-requires
perms_at-requires c =
    let a = c.args in
    let T : ShiftTables = given a.tables.now in
    perms-read T c.requires.0 a.t a.a c.requires.1 c.requires.2

pub s2pp_at-p-requires : goal.s2pp_at-p-requires
s2pp_at-p-requires c =
    let a = c.args in
    let T : ShiftTables = given a.tables.now in
    let p = c.requires in
    s2pp-read T p.0 _ (image-below T p.0 c.perms_at.ensures p.1 p.2)

pub s2pp_at-q-requires : goal.s2pp_at-q-requires
s2pp_at-q-requires c =
    let a = c.args in
    let T : ShiftTables = given a.tables.now in
    s2pp-read T c.requires.0 a.a c.requires.2

pub returns : goal.returns
returns c =
    let a = c.args in
    let T : ShiftTables = given a.tables.now in
    let S = shifts_of T in
    c.eq.ensures ∙ ap₂ eqb (c.s2pp_at-p.ensures ∙ s2pp_is T _ ∙ ap (s2pp_at S) (c.perms_at.ensures ∙ perms_is T a.t a.a)) (c.s2pp_at-q.ensures ∙ s2pp_is T a.a)
