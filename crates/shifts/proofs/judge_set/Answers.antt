use mathlib.Core.List.{[], ◌∷◌}
use mathlib.Core.Path.{sym, ◌∙◌}
use Prim.Native.Nat.{◌≤◌}
use native.Mathlib.Omega.{arith}
use Rattle.tables.specs.Compact.{ShiftTables, given}
use Rattle.tables.specs.Conditions.{not_above}
use Rattle.shifts.proofs.Together.{count_above, wrong-set, wrong-tables, entries-left}
use Rattle.shifts.proofs.judge_set.Goals as goal

pub returns-then-any_above : goal.returns-then-any_above
returns-then-any_above c =
    let a = c.args in
    let T : ShiftTables = given a.tables.now in
    count_above a.limit a.m a.set_len T (sym c.any_above.ensures ∙ c.if-any_above.true)

pub set_length-requires : goal.set_length-requires
set_length-requires c =
    let a = c.args in
    let n = not_above a.limit (a.tables.now.n_satom ∷ (a.tables.now.n_patom ∷ (a.tables.now.num_trans ∷ []))) (sym c.any_above.ensures ∙ c.if-any_above.false) in
    let hS : a.tables.now.n_satom ≤ 1024 = omega arith in
    let hP : a.tables.now.n_patom ≤ 1024 = omega arith in
    (hP, hS, c.requires.1)

pub returns-then-set_len-set_length : goal.returns-then-set_len-set_length
returns-then-set_len-set_length c =
    let a = c.args in
    let T : ShiftTables = given a.tables.now in
    wrong-set a.limit a.m a.set_len T (sym c.any_above.ensures ∙ c.if-any_above.false) (λ z. c.if-set_len-set_length.true (z ∙ sym c.set_length.ensures))

pub any_wrong-requires : goal.any_wrong-requires
any_wrong-requires c =
    let a = c.args in
    let p = c.requires in
    let n = not_above a.limit (a.tables.now.n_satom ∷ (a.tables.now.n_patom ∷ (a.tables.now.num_trans ∷ []))) (sym c.any_above.ensures ∙ c.if-any_above.false) in
    let hS : a.tables.now.n_satom ≤ 1024 = omega arith in
    let hT : a.tables.now.num_trans ≤ 1024 = omega arith in
    (hS, hT)

pub returns-then-any_wrong : goal.returns-then-any_wrong
returns-then-any_wrong c =
    let a = c.args in
    let T : ShiftTables = given a.tables.now in
    wrong-tables a.limit a.m a.set_len T (sym c.any_above.ensures ∙ c.if-any_above.false) (c.if-set_len-set_length.false ∙ c.set_length.ensures) (sym c.any_wrong.ensures ∙ c.if-any_wrong.true)

pub judge_entries-requires : goal.judge_entries-requires
judge_entries-requires c =
    let a = c.args in
    let p = c.requires in
    let n = not_above a.limit (a.tables.now.n_satom ∷ (a.tables.now.n_patom ∷ (a.tables.now.num_trans ∷ []))) (sym c.any_above.ensures ∙ c.if-any_above.false) in
    let hS : a.tables.now.n_satom ≤ 1024 = omega arith in
    let hP : a.tables.now.n_patom ≤ 1024 = omega arith in
    let hT : a.tables.now.num_trans ≤ 1024 = omega arith in record { in_range = (hS, hP, hT); in_range_2 = sym c.any_wrong.ensures ∙ c.if-any_wrong.false }

pub returns : goal.returns
returns c =
    let a = c.args in
    let T : ShiftTables = given a.tables.now in
    c.judge_entries.ensures
    ∙ entries-left a.limit a.m a.set_len T (sym c.any_above.ensures ∙ c.if-any_above.false) (c.if-set_len-set_length.false ∙ c.set_length.ensures) (sym c.any_wrong.ensures ∙ c.if-any_wrong.false)
