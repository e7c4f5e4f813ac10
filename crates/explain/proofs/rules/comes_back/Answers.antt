use mathlib.Core.Path.{ap, ◌∙◌}
use lib.Dec.{eqb}
use Rattle.tables.specs.Shifts.{s2pp_at}
use Rattle.tables.specs.Compact.{ShiftTables, shifts_of, p2s_is, s2pp_is, given}
use Rattle.explain.specs.Laws.{p2s-read, s2pp-read, p2s-below}
use Rattle.explain.proofs.rules.comes_back.Goals as goal

pub p2s_at-requires : goal.p2s_at-requires
p2s_at-requires c =
    let a = c.args in
    let T : ShiftTables = given a.tables.now in
    p2s-read T c.requires.0 a.p c.requires.1

pub s2pp_at-q-requires : goal.s2pp_at-q-requires
s2pp_at-q-requires c =
    let a = c.args in
    let T : ShiftTables = given a.tables.now in
    s2pp-read T c.requires.0 _ (p2s-below T c.requires.0 c.p2s_at.ensures c.requires.1)

pub returns : goal.returns
returns c =
    let a = c.args in
    let T : ShiftTables = given a.tables.now in
    let S = shifts_of T in
    c.eq.ensures ∙ ap (λ q. eqb q a.p) (c.s2pp_at-q.ensures ∙ s2pp_is T _ ∙ ap (s2pp_at S) (c.p2s_at.ensures ∙ p2s_is T a.p))
