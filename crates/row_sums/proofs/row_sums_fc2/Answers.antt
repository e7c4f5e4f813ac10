use Rattle.std.proofs.lemmas.Result.{err_from_is_err_and}
use Rattle.tables.specs.Answers.{passes, refuses}
use mathlib.Core.Path.{sym, ap, ◌∙◌}
use lib.ListN.{length}
use Rattle.row_sums.specs.Calls.{lengths_known, sums-refused, sums-done}
use Rattle.row_sums.proofs.row_sums_fc2.Goals as goal

pub returns-in_err-judge_lengths : goal.returns-in_err-judge_lengths
returns-in_err-judge_lengths c =
    let a = c.args in
    let p = err_from_is_err_and c.from_residual.result c.from_residual.ensures.1 in
    rw (p.1, p.2) (rw (← c.in_err-judge_lengths.was) (sums-refused a.sums.now a.fc.now a.n_satom c.judge_lengths.result c.judge_lengths.ensures (refuses c.in_err-judge_lengths.was)))

pub sum_rows-requires : goal.sum_rows-requires
sum_rows-requires c =
    let a = c.args in
    lengths_known (length a.fc.now) (length a.sums.now) a.n_satom c.judge_lengths.result c.judge_lengths.ensures (passes c.in_ok-judge_lengths.was)

pub returns : goal.returns
returns c =
    let a = c.args in
    ap (λ l. (_, l)) c.sum_rows.ensures
    ∙ sums-done a.sums.now a.fc.now a.n_satom c.judge_lengths.result c.judge_lengths.ensures (passes c.in_ok-judge_lengths.was)
