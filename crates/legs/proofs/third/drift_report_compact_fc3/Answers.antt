use Rattle.std.proofs.lemmas.Result.{err_from_is_err_and}
use Rattle.std.specs.Prelude.{Ok}
use mathlib.Core.Path.{sym, ap, ◌∙◌}
use lib.Dec.{lit≤}
use lib.ListN.{length}
use Rattle.tables.specs.Limits.{limit3}
use Rattle.tables.specs.Compact.{given}
use Rattle.audits.specs.Guard.{ready_compact}
use Rattle.legs.specs.Laws.{compact_given, compact_refused}
use Rattle.legs.proofs.third.drift_report_compact_fc3.Goals as goal

pub judge_set-requires : goal.judge_set-requires
judge_set-requires c = (lit≤ tt, lit≤ tt)

pub returns-in_err-judge_set : goal.returns-in_err-judge_set
returns-in_err-judge_set c =
    let a = c.args in
    let p = err_from_is_err_and c.from_residual.result c.from_residual.ensures.1 in
    rw (p.1, p.2) (compact_refused limit3 2 a.fc.now (given a.tables.now) _ (sym c.judge_set.ensures ∙ c.in_err-judge_set.was))

pub scan-seen-requires : goal.scan-seen-requires
scan-seen-requires c =
    let a = c.args in
    ready_compact limit3 2 (length a.fc.now) (given a.tables.now) (sym c.judge_set.ensures ∙ c.in_ok-judge_set.was)

pub returns : goal.returns
returns c =
    let a = c.args in
    ap Ok c.conclude.ensures
    ∙ compact_given limit3 2 a.fc.now (given a.tables.now) (sym c.judge_set.ensures ∙ c.in_ok-judge_set.was) c.scan-seen.ensures
