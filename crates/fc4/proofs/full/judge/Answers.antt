use Rattle.std.proofs.lemmas.Result.{err_from_is_err_and}
use Rattle.tables.specs.Answers.{passes, refuses}
use mathlib.Core.List.{[]}
use mathlib.Core.Path.{sym, ◌∙◌}
use native.Mathlib.Nat.{le_trans}
use lib.Dec.{lit≤}
use Rattle.tables.specs.Answers.{is_done}
use Rattle.tables.specs.Full.{done_full, refused-with, wrong-with, right-with}
use Rattle.fc4.proofs.full.judge.Goals as goal

pub judge_full-requires : goal.judge_full-requires
judge_full-requires c = (lit≤ tt, lit≤ tt)

pub returns-in_err-judge_full : goal.returns-in_err-judge_full
returns-in_err-judge_full c =
    let a = c.args in
    let j = c.judge_full in
    let p = err_from_is_err_and c.from_residual.result c.from_residual.ensures.1 in
    rw (p.1, p.2) (rw (← c.in_err-judge_full.was) (refused-with 64 3 a.set_len a.work_len _ a.num_atom j.result j.ensures (refuses c.in_err-judge_full.was)))

pub set_blocks-requires : goal.set_blocks-requires
set_blocks-requires c =
    let a = c.args in
    let j = c.judge_full in
    let few = le_trans (done_full 64 3 a.set_len [] a.num_atom (sym j.ensures ∙ c.in_ok-judge_full.was)).0 (lit≤ tt) in
    (few, few, lit≤ tt)

pub returns-then-work_len-set_blocks : goal.returns-then-work_len-set_blocks
returns-then-work_len-set_blocks c =
    let a = c.args in
    let j = c.judge_full in
    let h = passes c.in_ok-judge_full.was in
    right-with 64 3 a.set_len a.work_len _ a.num_atom j.result j.ensures h (c.if-work_len-set_blocks.true ∙ c.set_blocks.ensures)

pub returns : goal.returns
returns c =
    let a = c.args in
    let j = c.judge_full in
    let h = passes c.in_ok-judge_full.was in
    wrong-with 64 3 a.set_len a.work_len _ a.num_atom j.result j.ensures h (λ e. c.if-work_len-set_blocks.false (e ∙ sym c.set_blocks.ensures))
