use mathlib.Core.Path.{sym, ap, ◌∙◌}
use mathlib.Core.Bool.{not, ◌&&◌}
use native.Mathlib.Omega.{arith}
use lib.Dec.{eqb}
use Rattle.tables.specs.Shifts.{counts_agree}
use Rattle.tables.specs.Compact.{ShiftTables, shifts_of, given}
use Rattle.shifts.proofs.Together.{product_small}
use Rattle.explain.specs.Explain.{rules, rule_at}
use Rattle.explain.specs.Laws.{last-rule, at-rule}
use Rattle.explain.proofs.rules.breaks.Goals as goal

pub overflow_mul-result : goal.overflow_mul-result
overflow_mul-result c =
    let F = c.requires.0 in
    omega (arith, product_small c.args.tables.now.n_patom c.args.tables.now.num_trans F.patoms F.shifts)

pub meet-requires : goal.meet-requires
unfolding rules
meet-requires c =
    let a = c.args in
    let T : ShiftTables = given a.tables.now in
    let p = c.requires in
    let h = at-rule (shifts_of T) a.i a.j a.k c.in-1.is (p.2, p.3, p.4) in
    (p.0, h.0, h.1, h.0, h.2)

pub has_null-requires : goal.has_null-requires
has_null-requires c = c.requires.0

pub has_after-requires : goal.has_after-requires
unfolding rules
has_after-requires c =
    let a = c.args in
    let T : ShiftTables = given a.tables.now in
    let p = c.requires in
    let h = at-rule (shifts_of T) a.i a.j a.k c.in-3.is (p.2, p.3, p.4) in
    (p.0, h.0, h.1)

pub meet-requires-in-4 : goal.meet-requires-in-4
unfolding rules
meet-requires-in-4 c =
    let a = c.args in
    let T : ShiftTables = given a.tables.now in
    let p = c.requires in
    let h = at-rule (shifts_of T) a.i a.j a.k c.in-4.is (p.2, p.3, p.4) in
    (p.0, h.0, h.2, h.1, h.2)

pub comes_back-requires : goal.comes_back-requires
unfolding rules
comes_back-requires c =
    let a = c.args in
    let T : ShiftTables = given a.tables.now in
    let p = c.requires in
    let h = at-rule (shifts_of T) a.i a.j a.k c.in-5.is (p.2, p.3, p.4) in
    (p.0, h.0)

pub keeps_prim-requires : goal.keeps_prim-requires
unfolding rules
keeps_prim-requires c =
    let a = c.args in
    let T : ShiftTables = given a.tables.now in
    let p = c.requires in
    let h = at-rule (shifts_of T) a.i a.j a.k c.in-6.is (p.2, p.3, p.4) in
    (p.0, h.0, h.1)

pub lands-requires : goal.lands-requires
unfolding rules
lands-requires c =
    let a = c.args in
    let T : ShiftTables = given a.tables.now in
    let p = c.requires in
    let h = at-rule (shifts_of T) a.i a.j a.k (last-rule a.rule p.1 c.in_default.in_default-own.rest.0.0.0.0.0.0.1 c.in_default.in_default-own.rest.0.0.0.0.0.1 c.in_default.in_default-own.rest.0.0.0.0.1 c.in_default.in_default-own.rest.0.0.0.1 c.in_default.in_default-own.rest.0.0.1 c.in_default.in_default-own.rest.0.1 c.in_default.in_default-own.rest.1) (p.2, p.3, p.4) in
    (p.0, h.0)

pub returns-in-0 : goal.returns-in-0
unfolding rules counts_agree
returns-in-0 c =
    let a = c.args in
    let T : ShiftTables = given a.tables.now in
    ap (λ r. (rule_at (shifts_of T) r).breaks a.i a.j a.k) (sym c.in-0.is)

pub returns-in-1 : goal.returns-in-1
unfolding rules
returns-in-1 c =
    let a = c.args in
    let T : ShiftTables = given a.tables.now in
    ap (λ x. x && not (eqb a.j a.k)) c.meet.ensures ∙ ap (λ r. (rule_at (shifts_of T) r).breaks a.i a.j a.k) (sym c.in-1.is)

pub returns-in-2 : goal.returns-in-2
unfolding rules
returns-in-2 c =
    let a = c.args in
    let T : ShiftTables = given a.tables.now in
    ap not c.has_null.ensures ∙ ap (λ r. (rule_at (shifts_of T) r).breaks a.i a.j a.k) (sym c.in-2.is)

pub returns-in-3 : goal.returns-in-3
unfolding rules
returns-in-3 c =
    let a = c.args in
    let T : ShiftTables = given a.tables.now in
    ap not c.has_after.ensures ∙ ap (λ r. (rule_at (shifts_of T) r).breaks a.i a.j a.k) (sym c.in-3.is)

pub returns-in-4 : goal.returns-in-4
unfolding rules
returns-in-4 c =
    let a = c.args in
    let T : ShiftTables = given a.tables.now in
    ap (λ x. x && not (eqb a.i a.j)) c.meet-in-4.ensures ∙ ap (λ r. (rule_at (shifts_of T) r).breaks a.i a.j a.k) (sym c.in-4.is)

pub returns-in-5 : goal.returns-in-5
unfolding rules
returns-in-5 c =
    let a = c.args in
    let T : ShiftTables = given a.tables.now in
    ap not c.comes_back.ensures ∙ ap (λ r. (rule_at (shifts_of T) r).breaks a.i a.j a.k) (sym c.in-5.is)

pub returns-in-6 : goal.returns-in-6
unfolding rules
returns-in-6 c =
    let a = c.args in
    let T : ShiftTables = given a.tables.now in
    ap not c.keeps_prim.ensures ∙ ap (λ r. (rule_at (shifts_of T) r).breaks a.i a.j a.k) (sym c.in-6.is)

pub returns-in_default : goal.returns-in_default
unfolding rules
returns-in_default c =
    let a = c.args in
    let T : ShiftTables = given a.tables.now in
    let p = c.requires in
    ap not c.lands.ensures ∙ ap (λ r. (rule_at (shifts_of T) r).breaks a.i a.j a.k) (sym (last-rule a.rule p.1 c.in_default.in_default-own.rest.0.0.0.0.0.0.1 c.in_default.in_default-own.rest.0.0.0.0.0.1 c.in_default.in_default-own.rest.0.0.0.0.1 c.in_default.in_default-own.rest.0.0.0.1 c.in_default.in_default-own.rest.0.0.1 c.in_default.in_default-own.rest.0.1 c.in_default.in_default-own.rest.1))
