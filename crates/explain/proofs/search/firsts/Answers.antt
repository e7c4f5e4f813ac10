use mathlib.Core.Path.{sym, ap}
use Rattle.tables.specs.Compact.{ShiftTables, shifts_of, given}
use Rattle.explain.specs.Explain.{rules, rule_at}
use Rattle.explain.specs.Laws.{last-rule}
use Rattle.explain.proofs.search.firsts.Goals as goal

pub returns-in-0 : goal.returns-in-0
unfolding rules
returns-in-0 c =
    let a = c.args in
    let T : ShiftTables = given a.tables.now in
    ap (λ r. (rule_at (shifts_of T) r).firsts) (sym c.in-0.is)

pub returns-in-1 : goal.returns-in-1
unfolding rules
returns-in-1 c =
    let a = c.args in
    let T : ShiftTables = given a.tables.now in
    ap (λ r. (rule_at (shifts_of T) r).firsts) (sym c.in-1.is)

pub returns-in-2 : goal.returns-in-2
unfolding rules
returns-in-2 c =
    let a = c.args in
    let T : ShiftTables = given a.tables.now in
    ap (λ r. (rule_at (shifts_of T) r).firsts) (sym c.in-2.is)

pub returns-in-3 : goal.returns-in-3
unfolding rules
returns-in-3 c =
    let a = c.args in
    let T : ShiftTables = given a.tables.now in
    ap (λ r. (rule_at (shifts_of T) r).firsts) (sym c.in-3.is)

pub returns-in-4 : goal.returns-in-4
unfolding rules
returns-in-4 c =
    let a = c.args in
    let T : ShiftTables = given a.tables.now in
    ap (λ r. (rule_at (shifts_of T) r).firsts) (sym c.in-4.is)

pub returns-in-5 : goal.returns-in-5
unfolding rules
returns-in-5 c =
    let a = c.args in
    let T : ShiftTables = given a.tables.now in
    ap (λ r. (rule_at (shifts_of T) r).firsts) (sym c.in-5.is)

pub returns-in-6 : goal.returns-in-6
unfolding rules
returns-in-6 c =
    let a = c.args in
    let T : ShiftTables = given a.tables.now in
    ap (λ r. (rule_at (shifts_of T) r).firsts) (sym c.in-6.is)

pub returns-in_default : goal.returns-in_default
unfolding rules
returns-in_default c =
    let a = c.args in
    let T : ShiftTables = given a.tables.now in
    ap (λ r. (rule_at (shifts_of T) r).firsts) (sym (last-rule c.args.rule c.requires c.in_default.in_default-own.rest.0.0.0.0.0.0.1 c.in_default.in_default-own.rest.0.0.0.0.0.1 c.in_default.in_default-own.rest.0.0.0.0.1 c.in_default.in_default-own.rest.0.0.0.1 c.in_default.in_default-own.rest.0.0.1 c.in_default.in_default-own.rest.0.1 c.in_default.in_default-own.rest.1))
