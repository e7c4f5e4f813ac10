use Rattle.std.proofs.lemmas.Result.{err_from_is_err_and}
use Rattle.std.specs.Prelude.{Ok}
use Prim.Native.Nat.{◌≤◌}
use native.Mathlib.Omega.{arith}
use mathlib.Core.Path.{sym, ap, ◌∙◌}
use mathlib.Core.List.{[]}
use lib.Dec.{lit≤}
use lib.ListN.{length}
use Rattle.tables.specs.Full.{done_full}
use Rattle.tables.specs.Limits.{limit4}
use Rattle.audits.specs.Guard.{ready-whole}
use Rattle.legs.specs.Laws.{full-given, full-refused}
use Rattle.legs.proofs.fourth.drift_report_fc4.Goals as goal

pub returns-in_err-judge_full : goal.returns-in_err-judge_full
returns-in_err-judge_full c =
    let a = c.args in
    let p = err_from_is_err_and c.from_residual.result c.from_residual.ensures.1 in
    rw (p.1, p.2) (full-refused limit4 3 a.fc.now a.num_atom _ (sym c.judge_full.ensures ∙ c.in_err-judge_full.was))

pub scan_full-seen-requires : goal.scan_full-seen-requires
scan_full-seen-requires c =
    let a = c.args in
    let e = sym c.judge_full.ensures ∙ c.in_ok-judge_full.was in
    let few = (done_full limit4 3 (length a.fc.now) [] a.num_atom e).0 in
    let h : a.num_atom ≤ 1024 = omega arith in
    (ready-whole limit4 3 (length a.fc.now) a.num_atom (lit≤ tt) e, h)

pub returns : goal.returns
returns c =
    let a = c.args in
    ap Ok c.conclude.ensures
    ∙ full-given limit4 3 a.fc.now a.num_atom (sym c.judge_full.ensures ∙ c.in_ok-judge_full.was) c.scan_full-seen.ensures

pub judge_full-requires : goal.judge_full-requires
judge_full-requires c = (lit≤ tt, lit≤ tt)
