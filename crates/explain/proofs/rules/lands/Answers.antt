use mathlib.Core.Path.{◌≡◌, ap, ap₂, ◌∙◌}
use lib.Dec.{eqb}
use Rattle.tables.specs.Shifts.{row, p2s_at, nsym_at}
use Rattle.tables.specs.Compact.{ShiftTables, shifts_of, perms_is, p2s_is, s2pp_is, nsym_is, given}
use Rattle.explain.specs.Laws.{perms-read, p2s-read, s2pp-read, nsym_read, s2pp-below, nsym_below}
use Rattle.explain.proofs.rules.lands.Goals as goal

pub nsym_at-t-requires : goal.nsym_at-t-requires
nsym_at-t-requires c =
    let a = c.args in
    let T : ShiftTables = given a.tables.now in
    nsym_read T c.requires.0 a.a c.requires.1

pub perms_at-x-requires : goal.perms_at-x-requires
perms_at-x-requires c =
    let a = c.args in
    let T : ShiftTables = given a.tables.now in
    let p = c.requires in
    perms-read T p.0 _ a.a (nsym_below T p.0 c.nsym_at-t.ensures p.1) p.1

pub s2pp_at-requires : goal.s2pp_at-requires
s2pp_at-requires c =
    let a = c.args in
    let T : ShiftTables = given a.tables.now in
    s2pp-read T c.requires.0 a.a c.requires.1

pub p2s_at-y-requires : goal.p2s_at-y-requires
p2s_at-y-requires c =
    let a = c.args in
    let T : ShiftTables = given a.tables.now in
    let p = c.requires in
    p2s-read T p.0 _ (s2pp-below T p.0 c.s2pp_at.ensures p.1)

pub returns : goal.returns
returns c =
    let a = c.args in
    let T : ShiftTables = given a.tables.now in
    let S = shifts_of T in
    let e : c.perms_at-x.result.0 ≡ row S (nsym_at S a.a) a.a =
    c.perms_at-x.ensures ∙ perms_is T _ a.a ∙ ap (λ t. row S t a.a) (c.nsym_at-t.ensures ∙ nsym_is T a.a) in
    c.eq.ensures ∙ ap₂ eqb e (c.p2s_at-y.ensures ∙ p2s_is T _ ∙ ap (p2s_at S) (c.s2pp_at.ensures ∙ s2pp_is T a.a))
