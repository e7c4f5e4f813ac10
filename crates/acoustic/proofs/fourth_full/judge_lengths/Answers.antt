use Rattle.std.proofs.lemmas.Result.{err_from_is_err_and}
use Rattle.tables.specs.Answers.{passes, refuses}
use mathlib.Core.List.{[]}
use mathlib.Core.Path.{sym, ap, ◌∙◌}
use Prim.Native.Nat.{◌*◌}
use native.Mathlib.Nat.{le_trans}
use native.Mathlib.Omega.{arith}
use lib.Dec.{lit≤}
use Rattle.tables.specs.Answers.{is_done}
use Rattle.tables.specs.Full.{done_full}
use Rattle.acoustic.specs.Fourth.{drift81, few81, full-refused_too, done-wrong, drift_wrong, both_right}
use Rattle.acoustic.proofs.fourth_full.judge_lengths.Goals as goal

pub judge_full-requires : goal.judge_full-requires
judge_full-requires c = (lit≤ tt, lit≤ tt)

pub returns-in_err-judge_full : goal.returns-in_err-judge_full
returns-in_err-judge_full c =
    let a = c.args in
    let j = c.judge_full in
    let p = err_from_is_err_and c.from_residual.result c.from_residual.ensures.1 in
    rw (p.1, p.2) (rw (← c.in_err-judge_full.was) (full-refused_too 64 3 a.set_len a.done_len a.drift_len a.n j.result j.ensures (refuses c.in_err-judge_full.was)))

pub set_blocks-requires : goal.set_blocks-requires
set_blocks-requires c =
    let a = c.args in
    let j = c.judge_full in
    let few = le_trans (done_full 64 3 a.set_len [] a.n (sym j.ensures ∙ c.in_ok-judge_full.was)).0 (lit≤ tt) in
    (few, few, lit≤ tt)

pub returns-then-done_len-set_blocks : goal.returns-then-done_len-set_blocks
returns-then-done_len-set_blocks c =
    let a = c.args in
    let j = c.judge_full in
    done-wrong 64 3 a.set_len a.done_len a.drift_len a.n j.result j.ensures (passes c.in_ok-judge_full.was) (λ e. c.if-done_len-set_blocks.true (e ∙ sym c.set_blocks.ensures))

pub set_blocks-requires-2 : goal.set_blocks-requires-2
set_blocks-requires-2 c =
    let a = c.args in
    let j = c.judge_full in
    let few = le_trans (done_full 64 3 a.set_len [] a.n (sym j.ensures ∙ c.in_ok-judge_full.was)).0 (lit≤ tt) in
    (few, few, lit≤ tt)

pub overflow_mul-set_blocks : goal.overflow_mul-set_blocks
overflow_mul-set_blocks c =
    let a = c.args in
    let j = c.judge_full in
    let few = le_trans (done_full 64 3 a.set_len [] a.n (sym j.ensures ∙ c.in_ok-judge_full.was)).0 (lit≤ tt) in
    let g = few81 a.n a.n few few in
    omega (arith, g, c.set_blocks-2.ensures)

pub returns-then-drift_len-set_blocks : goal.returns-then-drift_len-set_blocks
returns-then-drift_len-set_blocks c =
    let a = c.args in
    let j = c.judge_full in
    sym c.in_ok-judge_full.was ∙ both_right 64 3 a.set_len a.done_len a.drift_len a.n j.result j.ensures (passes c.in_ok-judge_full.was) (c.if-done_len-set_blocks.false ∙ c.set_blocks.ensures) (c.if-drift_len-set_blocks.true ∙ ap (λ x. x * 81) c.set_blocks-2.ensures ∙ drift81 a.n a.n)

pub returns : goal.returns
returns c =
    let a = c.args in
    let j = c.judge_full in
    drift_wrong 64 3 a.set_len a.done_len a.drift_len a.n j.result j.ensures (passes c.in_ok-judge_full.was) (c.if-done_len-set_blocks.false ∙ c.set_blocks.ensures) (λ e. c.if-drift_len-set_blocks.false (e ∙ sym (ap (λ x. x * 81) c.set_blocks-2.ensures ∙ drift81 a.n a.n)))
