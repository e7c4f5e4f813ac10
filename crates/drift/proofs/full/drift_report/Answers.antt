use Rattle.std.proofs.lemmas.Result.{err_from_is_err_and}
use Rattle.std.specs.Prelude.{Ok}
use Rattle.drift.specs.Laws.{sized, report-refused, report-done}
use mathlib.Core.Path.{sym, ap, ◌∙◌}
use lib.Dec.{lit≤}
use Rattle.drift.proofs.full.drift_report.Goals as goal

pub judge_full-requires : goal.judge_full-requires
judge_full-requires c = (lit≤ tt, lit≤ tt)

pub returns-in_err-judge_full : goal.returns-in_err-judge_full
returns-in_err-judge_full c =
    let p = err_from_is_err_and c.from_residual.result c.from_residual.ensures.1 in
    rw (p.1, p.2) (report-refused c.args.fc.now c.args.n_satom _ (sym c.judge_full.ensures ∙ c.in_err-judge_full.was))

pub scan_set-seen-requires : goal.scan_set-seen-requires
scan_set-seen-requires c =
    sized c.args.fc.now c.args.n_satom (sym c.judge_full.ensures ∙ c.in_ok-judge_full.was)

pub returns : goal.returns
returns c =
    ap Ok c.conclude.ensures
    ∙ report-done c.args.fc.now c.args.n_satom (sym c.judge_full.ensures ∙ c.in_ok-judge_full.was) c.scan_set-seen.result c.scan_set-seen.ensures
