use mathlib.Core.Path.{sym, ap, ◌∙◌}
use Prim.Native.Nat.{◌*◌}
use native.Mathlib.Nat.{le_trans}
use native.Mathlib.Omega.{arith}
use lib.Dec.{lit≤}
use Rattle.tables.specs.Compact.{ShiftTables, given}
use Rattle.acoustic.specs.Calls.{above_too, few-atoms, right_too, wrong-more}
use Rattle.acoustic.specs.Fourth.{drift81, few81}
use Rattle.lists.specs.Tests.{not-both}
use Rattle.acoustic.proofs.fourth_compact.judge_lengths.Goals as goal

pub judge_compact-a-requires : goal.judge_compact-a-requires
judge_compact-a-requires c = (lit≤ tt, lit≤ tt, lit≤ tt)

pub returns-then-is_above_limit : goal.returns-then-is_above_limit
returns-then-is_above_limit c =
    let a = c.args in
    let T : ShiftTables = given a.tables.now in
    let j = c.judge_compact-a in
    above_too 64 3 a.set_len a.done_len a.drift_len T j.result j.ensures (c.is_above_limit.ensures.0 c.if-is_above_limit.true)

pub set_blocks-requires : goal.set_blocks-requires
set_blocks-requires c =
    let a = c.args in
    let T : ShiftTables = given a.tables.now in
    let j = c.judge_compact-a in
    let few = few-atoms 64 3 a.set_len a.done_len 0 T j.result j.ensures (λ e. not-both (c.is_above_limit.ensures.1 e) c.if-is_above_limit.false) in
    (le_trans few.1 (lit≤ tt), le_trans few.0 (lit≤ tt), lit≤ tt)

pub overflow_mul-set_blocks : goal.overflow_mul-set_blocks
overflow_mul-set_blocks c =
    let a = c.args in
    let T : ShiftTables = given a.tables.now in
    let j = c.judge_compact-a in
    let few = few-atoms 64 3 a.set_len a.done_len 0 T j.result j.ensures (λ e. not-both (c.is_above_limit.ensures.1 e) c.if-is_above_limit.false) in
    let g = few81 a.tables.now.n_patom a.tables.now.n_satom (le_trans few.1 (lit≤ tt)) (le_trans few.0 (lit≤ tt)) in
    omega (arith, g, c.set_blocks.ensures)

pub returns-then-drift_len-set_blocks : goal.returns-then-drift_len-set_blocks
returns-then-drift_len-set_blocks c =
    let a = c.args in
    let T : ShiftTables = given a.tables.now in
    let j = c.judge_compact-a in
    right_too 64 3 a.set_len a.done_len a.drift_len T j.result j.ensures (c.if-drift_len-set_blocks.true ∙ ap (λ x. x * 81) c.set_blocks.ensures ∙ drift81 a.tables.now.n_patom a.tables.now.n_satom)

pub returns : goal.returns
returns c =
    let a = c.args in
    let T : ShiftTables = given a.tables.now in
    let j = c.judge_compact-a in
    wrong-more 64 3 a.set_len a.done_len a.drift_len T j.result j.ensures (λ e. not-both (c.is_above_limit.ensures.1 e) c.if-is_above_limit.false)
    (λ e. c.if-drift_len-set_blocks.false (e ∙ sym (ap (λ x. x * 81) c.set_blocks.ensures ∙ drift81 a.tables.now.n_patom a.tables.now.n_satom)))
