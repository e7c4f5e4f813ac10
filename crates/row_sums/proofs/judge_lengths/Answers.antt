use mathlib.Core.List.{[]}
use mathlib.Core.Path.{sym, ◌∙◌}
use Prim.Native.Nat.{◌≤◌}
use native.Mathlib.Omega.{arith}
use Rattle.std.proofs.lemmas.Result.{err_from_is_err_and}
use Rattle.tables.specs.Answers.{passes, refuses}
use Rattle.tables.specs.Full.{done_full, refused-with, wrong-with, right-with}
use Rattle.row_sums.proofs.judge_lengths.Goals as goal

pub returns-in_err-judge_full : goal.returns-in_err-judge_full
returns-in_err-judge_full c =
    let a = c.args in
    let j = c.judge_full in
    let p = err_from_is_err_and c.from_residual.result c.from_residual.ensures.1 in
    rw (p.1, p.2) (rw (← c.in_err-judge_full.was) (refused-with 1024 1 a.fc_len a.sums_len _ a.n j.result j.ensures (refuses c.in_err-judge_full.was)))

pub overflow_mul-n : goal.overflow_mul-n
overflow_mul-n c =
    let a = c.args in
    let j = c.judge_full in
    let few : a.n ≤ 1024 = (done_full 1024 1 a.fc_len [] a.n (sym j.ensures ∙ c.in_ok-judge_full.was)).0 in
    omega arith

pub returns-then-sums_len-n : goal.returns-then-sums_len-n
returns-then-sums_len-n c =
    let a = c.args in
    let j = c.judge_full in
    right-with 1024 1 a.fc_len a.sums_len _ a.n j.result j.ensures (passes c.in_ok-judge_full.was) c.if-sums_len-n.true

pub returns : goal.returns
returns c =
    let a = c.args in
    let j = c.judge_full in
    wrong-with 1024 1 a.fc_len a.sums_len _ a.n j.result j.ensures (passes c.in_ok-judge_full.was) c.if-sums_len-n.false
