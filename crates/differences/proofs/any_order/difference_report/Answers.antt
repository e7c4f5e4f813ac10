use Rattle.std.proofs.lemmas.Result.{err_from_is_err_and}
use Rattle.std.specs.Prelude.{Ok}
use native.Mathlib.Nat.{le_trans}
use mathlib.Core.Path.{sym, ap, ap₂, ◌∙◌}
use mathlib.Core.List.{[]}
use lib.ListN.{length}
use Rattle.tables.specs.Full.{judged_full, done_full}
use Rattle.audits.specs.Guard.{ready-whole}
use Rattle.differences.specs.Laws.{full-given, full-refused}
use Rattle.differences.proofs.any_order.difference_report.Goals as goal

pub returns-in_err-judge_full : goal.returns-in_err-judge_full
returns-in_err-judge_full g c =
    let a = c.args in
    let s = c.judge_full.ensures ∙ ap₂ (λ l m. judged_full l m (length a.fc.now) [] a.num_atom) c.LIMIT.ensures c.RANK.ensures in
    let p = err_from_is_err_and c.from_residual.result c.from_residual.ensures.1 in
    rw (p.1, p.2) (full-refused g.O.Order.LIMIT g.O.Order.RANK g.O.Order.permutations a.fc.now a.num_atom _ (sym s ∙ c.in_err-judge_full.was))

pub scan_full-seen-requires : goal.scan_full-seen-requires
scan_full-seen-requires g c =
    let a = c.args in
    let s = c.judge_full.ensures ∙ ap₂ (λ l m. judged_full l m (length a.fc.now) [] a.num_atom) c.LIMIT.ensures c.RANK.ensures in
    let e = sym s ∙ c.in_ok-judge_full.was in
    let few = (done_full g.O.Order.LIMIT g.O.Order.RANK (length a.fc.now) [] a.num_atom e).0 in
    let h = le_trans few g.met.O.Order.small.1 in
    (ready-whole g.O.Order.LIMIT g.O.Order.RANK (length a.fc.now) a.num_atom g.met.O.Order.small.0 e, h)

pub returns : goal.returns
returns g c =
    let a = c.args in
    let s = c.judge_full.ensures ∙ ap₂ (λ l m. judged_full l m (length a.fc.now) [] a.num_atom) c.LIMIT.ensures c.RANK.ensures in
    ap Ok c.conclude.ensures
    ∙ full-given g.O.Order.LIMIT g.O.Order.RANK g.O.Order.permutations a.fc.now a.num_atom (sym s ∙ c.in_ok-judge_full.was) c.scan_full-seen.ensures

pub judge_full-requires : goal.judge_full-requires
judge_full-requires g c = rw (c.LIMIT.ensures, c.RANK.ensures) (g.met.O.Order.small.1, g.met.O.Order.small.2)
