use mathlib.Core.Path.{ap, ◌∙◌}
use Rattle.tables.specs.Compact.{ShiftTables, given}
use Rattle.explain.specs.Explain.{because as becauseOf}
use Rattle.tables.specs.declared.Refusal.{Refusal}
use Rattle.tables.specs.declared.Refusal.TheVariants.{CountAboveLimit, WrongLength}
use Rattle.explain.specs.Guarded.{accepted, refused_1, refused_2, refused_3, refused_else}
use Rattle.explain.proofs.explain_shift_tables.Goals as goal

pub returns-in-Ok : goal.returns-in-Ok
returns-in-Ok c =
    let T : ShiftTables = given c.args.tables.now in
    accepted T c.check_shift_tables.ensures c.in-Ok.is

pub returns-in-CountAboveLimit : goal.returns-in-CountAboveLimit
returns-in-CountAboveLimit c =
    let T : ShiftTables = given c.args.tables.now in
    let e = c.in-CountAboveLimit.is in
    c.because.ensures ∙ ap (λ (q : Refusal). becauseOf q c.first_above.result 0 0 0) e ∙ ap (λ i. becauseOf CountAboveLimit i 0 0 0) c.first_above.ensures
    ∙ refused_1 T c.check_shift_tables.ensures c.in-Err.is e

pub first_wrong-requires : goal.first_wrong-requires
first_wrong-requires c =
    let T : ShiftTables = given c.args.tables.now in
    let t = refused_2 T c.check_shift_tables.ensures c.in-Err.is c.in-WrongLength.is in
    (t.0, t.1)

pub returns-in-WrongLength : goal.returns-in-WrongLength
returns-in-WrongLength c =
    let T : ShiftTables = given c.args.tables.now in
    let e = c.in-WrongLength.is in
    c.because-in-WrongLength.ensures ∙ ap (λ (q : Refusal). becauseOf q c.first_wrong.result 0 0 0) e ∙ ap (λ i. becauseOf WrongLength i 0 0 0) c.first_wrong.ensures
    ∙ (refused_2 T c.check_shift_tables.ensures c.in-Err.is e).2

pub returns-in-IndexOutOfRange : goal.returns-in-IndexOutOfRange
returns-in-IndexOutOfRange c =
    let T : ShiftTables = given c.args.tables.now in
    c.bad_entry.ensures ∙ refused_3 T c.check_shift_tables.ensures c.in-Err.is c.in-IndexOutOfRange.is

pub broken_rule-requires : goal.broken_rule-requires
broken_rule-requires c =
    let T : ShiftTables = given c.args.tables.now in
    let d = c.in_default in
    let t = refused_else T c.check_shift_tables.ensures c.in-Err.is d.not-CountAboveLimit d.not-WrongLength d.not-IndexOutOfRange in
    (t.0, t.1)

pub returns-in_default : goal.returns-in_default
returns-in_default c =
    let T : ShiftTables = given c.args.tables.now in
    let d = c.in_default in
    c.broken_rule.ensures ∙ (refused_else T c.check_shift_tables.ensures c.in-Err.is d.not-CountAboveLimit d.not-WrongLength d.not-IndexOutOfRange).2
