use Rattle.std.proofs.lemmas.Result.{err_from_is_err_and}
use Rattle.tables.specs.Answers.{passes, refuses}
use mathlib.Core.Path.{sym, ◌∙◌}
use Rattle.fc2_compact.specs.CompactCallLaws.{ready_when, index_refused, index_done}
use Rattle.fc2_compact.proofs.compact.set_index_permutation_symmetry_compact_fc.Goals as goal

pub returns-in_err-judge : goal.returns-in_err-judge
returns-in_err-judge c =
    let a = c.args in
    let p = err_from_is_err_and c.from_residual.result c.from_residual.ensures.1 in
    rw (p.1, p.2) (rw (← c.in_err-judge.was) (index_refused a.fc.now _ a.done.now a.transpose c.judge.ensures (refuses c.in_err-judge.was)))

pub exchange-requires : goal.exchange-requires
exchange-requires c =
    let a = c.args in
    ready_when a.fc.now _ a.done.now c.judge.ensures (passes c.in_ok-judge.was)

pub returns : goal.returns
returns c =
    let a = c.args in
    index_done a.fc.now _ a.done.now a.transpose c.judge.ensures (passes c.in_ok-judge.was)
    c.exchange.ensures c.clear.ensures
