use mathlib.Core.Path.{sym, ◌∙◌}
use native.Mathlib.Nat.{le_trans}
use Rattle.tables.specs.Lengths.{set_blocks}
use Rattle.tables.specs.Compact.{ShiftTables, judged_compact, given}
use Rattle.tables.proofs.OneMoreLaws.{above_too, few-atoms, right_too, wrong-more}
use Rattle.lists.specs.Tests.{not-both}
use Rattle.shifts.proofs.judge_compact.Goals as goal

pub judge_set-a-requires : goal.judge_set-a-requires
judge_set-a-requires c = (c.requires.0, c.requires.1)

pub returns-then-is_above_limit : goal.returns-then-is_above_limit
unfolding judged_compact
returns-then-is_above_limit c =
    let a = c.args in
    let T : ShiftTables = given a.tables.now in
    let j = c.judge_set-a in
    above_too a.limit a.m a.set_len a.work_len (set_blocks a.tables.now.n_patom a.tables.now.n_satom a.k) T j.result j.ensures (c.is_above_limit.ensures.0 c.if-is_above_limit.true)

pub set_blocks-requires : goal.set_blocks-requires
set_blocks-requires c =
    let a = c.args in
    let p = c.requires in
    let T : ShiftTables = given a.tables.now in
    let j = c.judge_set-a in
    let few = few-atoms a.limit a.m a.set_len 0 0 T j.result j.ensures (λ e. not-both (c.is_above_limit.ensures.1 e) c.if-is_above_limit.false) in
    (le_trans few.1 p.0, le_trans few.0 p.0, p.2)

pub returns-then-work_len-set_blocks : goal.returns-then-work_len-set_blocks
unfolding judged_compact
returns-then-work_len-set_blocks c =
    let a = c.args in
    let T : ShiftTables = given a.tables.now in
    let j = c.judge_set-a in
    right_too a.limit a.m a.set_len a.work_len (set_blocks a.tables.now.n_patom a.tables.now.n_satom a.k) T j.result j.ensures (c.if-work_len-set_blocks.true ∙ c.set_blocks.ensures)

pub returns : goal.returns
unfolding judged_compact
returns c =
    let a = c.args in
    let T : ShiftTables = given a.tables.now in
    let j = c.judge_set-a in
    wrong-more a.limit a.m a.set_len a.work_len (set_blocks a.tables.now.n_patom a.tables.now.n_satom a.k) T j.result j.ensures (λ e. not-both (c.is_above_limit.ensures.1 e) c.if-is_above_limit.false) (λ e. c.if-work_len-set_blocks.false (e ∙ sym c.set_blocks.ensures))
