use Rattle.std.proofs.lemmas.Result.{err_from_is_err_and}
use Rattle.std.specs.Prelude.{Ok}
use native.Mathlib.Omega.{arith}
use mathlib.Core.Path.{sym, ap, ◌∙◌}
use lib.Dec.{lit≤}
use Rattle.drift.proofs.ThirdLaws.{few-atoms, long-set, report-refused, report-done, report-none}
use Rattle.drift.proofs.third.drift_report_fc3.Goals as goal

pub returns-then-num_atom-eq0 : goal.returns-then-num_atom-eq0
returns-then-num_atom-eq0 c =
    let a = c.args in
    ap Ok c.still.ensures
    ∙ report-none a.fc.now a.num_atom c.if-num_atom-eq0.true (sym c.judge_full.ensures ∙ c.in_ok-judge_full.was)

pub returns-in_err-judge_full : goal.returns-in_err-judge_full
returns-in_err-judge_full c =
    let a = c.args in
    let p = err_from_is_err_and c.from_residual.result c.from_residual.ensures.1 in
    rw (p.1, p.2) (report-refused a.fc.now a.num_atom _ (sym c.judge_full.ensures ∙ c.in_err-judge_full.was))

pub scan-seen-requires : goal.scan-seen-requires
scan-seen-requires c =
    let a = c.args in
    let e = sym c.judge_full.ensures ∙ c.in_ok-judge_full.was in
    (few-atoms a.fc.now a.num_atom e, long-set a.fc.now a.num_atom e)

pub conclude-requires : goal.conclude-requires
conclude-requires c = let z = c.if-num_atom-eq0.false in omega arith

pub returns : goal.returns
returns c =
    let a = c.args in
    ap Ok c.conclude.ensures
    ∙ report-done a.fc.now a.num_atom (sym c.judge_full.ensures ∙ c.in_ok-judge_full.was) c.scan-seen.result c.scan-seen.ensures

pub judge_full-requires : goal.judge_full-requires
judge_full-requires c = (lit≤ tt, lit≤ tt)
