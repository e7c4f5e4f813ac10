use mathlib.Core.List.{[], ◌∷◌}
use mathlib.Core.Path.{sym, ◌∙◌}
use Rattle.tables.specs.Compact.{ShiftTables, table_lengths, judged_tables, given}
use Rattle.tables.specs.Conditions.{any_above, any_wrong, not_above}
use Rattle.tables.specs.Answers.{refused, not-refused}
use Rattle.tables.specs.declared.Refusal.TheVariants.{CountAboveLimit, WrongLength}
use Rattle.shifts.proofs.check_shift_tables.Goals as goal

pub returns-then-any_above : goal.returns-then-any_above
unfolding judged_tables
returns-then-any_above c =
    let a = c.args in
    let T : ShiftTables = given a.tables.now in
    let counts = a.tables.now.n_satom ∷ (a.tables.now.n_patom ∷ (a.tables.now.num_trans ∷ [])) in
    refused (any_above 1024 counts) _ _ (sym c.any_above.ensures ∙ c.if-any_above.true)

pub any_wrong-requires : goal.any_wrong-requires
any_wrong-requires c =
    let a = c.args in
    let counts = a.tables.now.n_satom ∷ (a.tables.now.n_patom ∷ (a.tables.now.num_trans ∷ [])) in
    let n = not_above 1024 counts (sym c.any_above.ensures ∙ c.if-any_above.false) in
    (n.0, n.1.1.0)

pub returns-then-any_wrong : goal.returns-then-any_wrong
unfolding judged_tables
returns-then-any_wrong c =
    let a = c.args in
    let T : ShiftTables = given a.tables.now in
    let counts = a.tables.now.n_satom ∷ (a.tables.now.n_patom ∷ (a.tables.now.num_trans ∷ [])) in
    refused (any_wrong (table_lengths T)) WrongLength _ (sym c.any_wrong.ensures ∙ c.if-any_wrong.true)
    ∙ not-refused (any_above 1024 counts) CountAboveLimit _ (sym c.any_above.ensures ∙ c.if-any_above.false)

pub judge_entries-requires : goal.judge_entries-requires
judge_entries-requires c =
    let a = c.args in
    let counts = a.tables.now.n_satom ∷ (a.tables.now.n_patom ∷ (a.tables.now.num_trans ∷ [])) in
    let n = not_above 1024 counts (sym c.any_above.ensures ∙ c.if-any_above.false) in record { in_range = (n.0, n.1.0, n.1.1.0); in_range_2 = sym c.any_wrong.ensures ∙ c.if-any_wrong.false }

pub returns : goal.returns
unfolding judged_tables
returns c =
    let a = c.args in
    let T : ShiftTables = given a.tables.now in
    let counts = a.tables.now.n_satom ∷ (a.tables.now.n_patom ∷ (a.tables.now.num_trans ∷ [])) in
    c.judge_entries.ensures
    ∙ not-refused (any_wrong (table_lengths T)) WrongLength _ (sym c.any_wrong.ensures ∙ c.if-any_wrong.false)
    ∙ not-refused (any_above 1024 counts) CountAboveLimit _ (sym c.any_above.ensures ∙ c.if-any_above.false)
