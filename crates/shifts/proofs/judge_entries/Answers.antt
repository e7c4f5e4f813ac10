use Rattle.std.specs.Prelude.{Ok}
use mathlib.Core.Bool.{not}
use mathlib.Core.Path.{sym, ap, ◌∙◌}
use Rattle.tables.specs.Compact.{ShiftTables, shifts_of, tables_out_of_range, judged_entries, fit_of, given}
use Rattle.tables.specs.Shifts.{ruled}
use Rattle.tables.specs.Answers.{refused, not-refused}
use Rattle.tables.specs.declared.Refusal.TheVariants.{IndexOutOfRange, BadShiftTables}
use Rattle.shifts.proofs.judge_entries.Goals as goal

pub returns-then-any_out : goal.returns-then-any_out
unfolding judged_entries
returns-then-any_out c =
    let a = c.args in
    let T : ShiftTables = given a.tables.now in
    refused (tables_out_of_range T) _ _ (sym c.any_out.ensures ∙ c.if-any_out.true)

pub keeps_rules-requires : goal.keeps_rules-requires
keeps_rules-requires c =
    let a = c.args in
    let T : ShiftTables = given a.tables.now in
    let p = c.requires in
    fit_of 1024 T p.in_range.0 p.in_range.1 p.in_range.2 p.in_range_2 (sym c.any_out.ensures ∙ c.if-any_out.false)

pub returns-then-keeps_rules : goal.returns-then-keeps_rules
unfolding judged_entries
returns-then-keeps_rules c =
    let a = c.args in
    let T : ShiftTables = given a.tables.now in
    not-refused (not (ruled (shifts_of T))) BadShiftTables (Ok tt) (ap not (sym c.keeps_rules.ensures ∙ c.if-keeps_rules.true))
    ∙ not-refused (tables_out_of_range T) IndexOutOfRange _ (sym c.any_out.ensures ∙ c.if-any_out.false)

pub returns : goal.returns
unfolding judged_entries
returns c =
    let a = c.args in
    let T : ShiftTables = given a.tables.now in
    refused (not (ruled (shifts_of T))) BadShiftTables (Ok tt) (ap not (sym c.keeps_rules.ensures ∙ c.if-keeps_rules.false))
    ∙ not-refused (tables_out_of_range T) IndexOutOfRange _ (sym c.any_out.ensures ∙ c.if-any_out.false)
