use Rattle.std.proofs.lemmas.Result.{err_from_is_err_and}
use Rattle.tables.specs.Answers.{passes, refuses}
use mathlib.Core.List.{[]}
use mathlib.Core.Path.{sym, ap, ◌∙◌}
use Prim.Native.Nat.{◌*◌}
use native.Mathlib.Nat.{le_trans}
use native.Mathlib.Omega.{arith}
use lib.Dec.{lit≤}
use Rattle.tables.specs.Answers.{is_done}
use Rattle.tables.specs.Full.{done_full, refused-with, wrong-with, right-with}
use Rattle.acoustic.specs.Calls.{drift27, few27}
use Rattle.acoustic.proofs.third_full.judge_lengths.Goals as goal

pub judge_full-requires : goal.judge_full-requires
judge_full-requires c = (lit≤ tt, lit≤ tt)

pub returns-in_err-judge_full : goal.returns-in_err-judge_full
returns-in_err-judge_full c =
    let a = c.args in
    let j = c.judge_full in
    let p = err_from_is_err_and c.from_residual.result c.from_residual.ensures.1 in
    rw (p.1, p.2) (rw (← c.in_err-judge_full.was) (refused-with 256 2 a.set_len a.drift_len _ a.n j.result j.ensures (refuses c.in_err-judge_full.was)))

pub set_blocks-requires : goal.set_blocks-requires
set_blocks-requires c =
    let a = c.args in
    let j = c.judge_full in
    let few = le_trans (done_full 256 2 a.set_len [] a.n (sym j.ensures ∙ c.in_ok-judge_full.was)).0 (lit≤ tt) in
    (few, few, lit≤ tt)

pub overflow_mul-set_blocks : goal.overflow_mul-set_blocks
overflow_mul-set_blocks c =
    let a = c.args in
    let j = c.judge_full in
    let few = le_trans (done_full 256 2 a.set_len [] a.n (sym j.ensures ∙ c.in_ok-judge_full.was)).0 (lit≤ tt) in
    let g = few27 a.n a.n few few in
    omega (arith, g, c.set_blocks.ensures)

pub returns-then-drift_len-set_blocks : goal.returns-then-drift_len-set_blocks
returns-then-drift_len-set_blocks c =
    let a = c.args in
    let j = c.judge_full in
    let h = passes c.in_ok-judge_full.was in
    right-with 256 2 a.set_len a.drift_len _ a.n j.result j.ensures h (c.if-drift_len-set_blocks.true ∙ ap (λ x. x * 27) c.set_blocks.ensures ∙ drift27 a.n a.n)

pub returns : goal.returns
returns c =
    let a = c.args in
    let j = c.judge_full in
    let h = passes c.in_ok-judge_full.was in
    wrong-with 256 2 a.set_len a.drift_len _ a.n j.result j.ensures h (λ e. c.if-drift_len-set_blocks.false (e ∙ sym (ap (λ x. x * 27) c.set_blocks.ensures ∙ drift27 a.n a.n)))
