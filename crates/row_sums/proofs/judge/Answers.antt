use Rattle.std.proofs.lemmas.Result.{err_from_is_err_and}
use Rattle.tables.specs.Answers.{passes, refuses}
use mathlib.Core.Path.{sym, ◌∙◌}
use lib.ListN.{length}
use Rattle.row_sums.specs.RowSums.{judged_block, judged_replace}
use Rattle.row_sums.specs.Calls.{lengths_refuse, lengths_pass, lengths_known}
use Rattle.row_sums.proofs.judge.Goals as goal

pub returns-in_err-judge_lengths : goal.returns-in_err-judge_lengths
unfolding judged_replace
returns-in_err-judge_lengths c =
    let a = c.args in
    let p = err_from_is_err_and c.from_residual.result c.from_residual.ensures.1 in
    rw (p.1, p.2) (rw (← c.in_err-judge_lengths.was) (lengths_refuse (length a.fc.now) a.sums_len a.n c.judge_lengths.result c.judge_lengths.ensures (judged_block a.fc.now a.block a.i a.j a.n) (refuses c.in_err-judge_lengths.was)))

pub judge_block-requires : goal.judge_block-requires
judge_block-requires c =
    let a = c.args in
    (lengths_known (length a.fc.now) a.sums_len a.n c.judge_lengths.result c.judge_lengths.ensures (passes c.in_ok-judge_lengths.was)).0

pub returns : goal.returns
unfolding judged_replace
returns c =
    let a = c.args in
    c.judge_block.ensures
    ∙ lengths_pass (length a.fc.now) a.sums_len a.n c.judge_lengths.result c.judge_lengths.ensures (judged_block a.fc.now a.block a.i a.j a.n)
    (passes c.in_ok-judge_lengths.was)
