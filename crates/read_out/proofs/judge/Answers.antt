use mathlib.Core.Path.{sym, ◌∙◌}
use native.Mathlib.Nat.{le_trans}
use Rattle.tables.specs.Lengths.{set_length}
use Rattle.tables.specs.Compact.{ShiftTables, given}
use Rattle.tables.proofs.OneMoreLaws.{above_too, few-atoms, right_too, wrong-more}
use Rattle.read_out.specs.ReadOut.{judged_read_out}
use Rattle.lists.specs.Tests.{not-both}
use Rattle.read_out.proofs.judge.Goals as goal

pub judge_set-a-requires : goal.judge_set-a-requires
judge_set-a-requires c = c.requires

pub returns-then-is_above_limit : goal.returns-then-is_above_limit
unfolding judged_read_out
returns-then-is_above_limit c =
    let a = c.args in
    let T : ShiftTables = given a.tables.now in
    let j = c.judge_set-a in
    above_too a.limit a.m a.set_len a.full_len (set_length a.tables.now.n_satom a.tables.now.n_satom a.m) T j.result j.ensures (c.is_above_limit.ensures.0 c.if-is_above_limit.true)

pub set_length-requires : goal.set_length-requires
set_length-requires c =
    let a = c.args in
    let p = c.requires in
    let T : ShiftTables = given a.tables.now in
    let j = c.judge_set-a in
    let few = le_trans (few-atoms a.limit a.m a.set_len 0 0 T j.result j.ensures (λ e. not-both (c.is_above_limit.ensures.1 e) c.if-is_above_limit.false)).0 p.0 in
    (few, few, p.1)

pub returns-then-full_len-set_length : goal.returns-then-full_len-set_length
unfolding judged_read_out
returns-then-full_len-set_length c =
    let a = c.args in
    let T : ShiftTables = given a.tables.now in
    let j = c.judge_set-a in
    right_too a.limit a.m a.set_len a.full_len (set_length a.tables.now.n_satom a.tables.now.n_satom a.m) T j.result j.ensures (c.if-full_len-set_length.true ∙ c.set_length.ensures)

pub returns : goal.returns
unfolding judged_read_out
returns c =
    let a = c.args in
    let T : ShiftTables = given a.tables.now in
    let j = c.judge_set-a in
    wrong-more a.limit a.m a.set_len a.full_len (set_length a.tables.now.n_satom a.tables.now.n_satom a.m) T j.result j.ensures (λ e. not-both (c.is_above_limit.ensures.1 e) c.if-is_above_limit.false) (λ e. c.if-full_len-set_length.false (e ∙ sym c.set_length.ensures))
