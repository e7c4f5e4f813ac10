use Rattle.std.proofs.lemmas.Result.{err_from_is_err_and}
use Rattle.std.specs.Prelude.{Ok}
use lib.Dec.{lit≤}
use lib.ListN.{length}
use mathlib.Core.Path.{sym, ap, ◌∙◌}
use Rattle.tables.specs.Limits.{limit2}
use Rattle.tables.specs.Compact.{ShiftTables, given}
use Rattle.audits.specs.Guard.{ready_compact}
use Rattle.drift.specs.CompactLaws.{held, report-refused, report-done}
use Rattle.drift.proofs.compact.drift_report_compact_fc2.Goals as goal

pub judge_set-requires : goal.judge_set-requires
judge_set-requires c = (lit≤ tt, lit≤ tt)

pub returns-in_err-judge_set : goal.returns-in_err-judge_set
returns-in_err-judge_set c =
    let a = c.args in
    let T : ShiftTables = given a.tables.now in
    let p = err_from_is_err_and c.from_residual.result c.from_residual.ensures.1 in
    rw (p.1, p.2) (report-refused a.fc.now T _ (sym c.judge_set.ensures ∙ c.in_err-judge_set.was))

pub scan-seen-requires : goal.scan-seen-requires
scan-seen-requires c =
    let a = c.args in
    let T : ShiftTables = given a.tables.now in
    held _ T (ready_compact limit2 1 (length a.fc.now) T (sym c.judge_set.ensures ∙ c.in_ok-judge_set.was))

pub returns : goal.returns
returns c =
    let a = c.args in
    let T : ShiftTables = given a.tables.now in
    ap Ok c.conclude.ensures
    ∙ report-done a.fc.now T (sym c.judge_set.ensures ∙ c.in_ok-judge_set.was) c.scan-seen.result c.scan-seen.ensures
