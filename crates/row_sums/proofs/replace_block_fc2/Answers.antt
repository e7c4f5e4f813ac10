use Rattle.std.proofs.lemmas.Result.{err_from_is_err_and}
use Rattle.tables.specs.Answers.{passes, refuses}
use Rattle.std.specs.Prelude.{Ok}
use mathlib.Core.Path.{sym, ap, ◌∙◌}
use mathlib.Core.List.{List}
use lib.Ieee.{Float}
use Rattle.row_sums.specs.Calls.{replace_refused, replace_done, ready_of}
use Rattle.row_sums.proofs.replace_block_fc2.Goals as goal

pub returns-in_err-judge : goal.returns-in_err-judge
returns-in_err-judge c =
    let a = c.args in
    let p = err_from_is_err_and c.from_residual.result c.from_residual.ensures.1 in
    rw (p.1, p.2) (rw (← c.in_err-judge.was) (replace_refused a.fc.now a.sums.now a.block a.i a.j a.n_satom c.judge.result c.judge.ensures (refuses c.in_err-judge.was)))

pub replace-requires : goal.replace-requires
replace-requires c =
    let a = c.args in
    ready_of a.fc.now a.sums.now a.block a.i a.j a.n_satom c.judge.result c.judge.ensures (passes c.in_ok-judge.was)

pub returns : goal.returns
returns c =
    let a = c.args in
    ap (λ (p : List Float × List Float). (Ok tt, p.0, p.1)) c.replace.ensures
    ∙ replace_done a.fc.now a.sums.now a.block a.i a.j a.n_satom c.judge.result c.judge.ensures (passes c.in_ok-judge.was)
