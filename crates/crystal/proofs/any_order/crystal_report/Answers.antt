use Rattle.std.proofs.lemmas.Result.{err_from_is_err_and}
use Rattle.std.specs.Prelude.{Ok}
use native.Mathlib.Nat.{le_trans}
use mathlib.Core.Path.{sym, ap, ap₂, ◌∙◌}
use mathlib.Core.List.{[]}
use lib.ListN.{length}
use Rattle.tables.specs.Full.{judged_full, done_full}
use Rattle.audits.specs.Guard.{ready-whole}
use Rattle.crystal.specs.Crystal.{earlier, judged_operations}
use Rattle.crystal.specs.Laws.{both-done, operating, whole-set-few, full-given, full-refused}
use Rattle.crystal.proofs.any_order.crystal_report.Goals as goal

pub judge_full-s-requires : goal.judge_full-s-requires
judge_full-s-requires g c = rw (c.LIMIT.ensures, c.RANK.ensures) (g.met.O.Order.small.1, g.met.O.Order.small.2)

pub judge-requires : goal.judge-requires
judge-requires g c =
    let a = c.args in
    let s = c.judge_full-s.ensures ∙ ap₂ (λ l m. judged_full l m (length a.fc.now) [] a.num_atom) c.LIMIT.ensures c.RANK.ensures in
    λ d. le_trans (whole-set-few g.O.Order.LIMIT g.O.Order.RANK (length a.fc.now) a.num_atom s d) g.met.O.Order.small.1

pub scan_full-seen-requires : goal.scan_full-seen-requires
scan_full-seen-requires g c =
    let a = c.args in
    let s = c.judge_full-s.ensures ∙ ap₂ (λ l m. judged_full l m (length a.fc.now) [] a.num_atom) c.LIMIT.ensures c.RANK.ensures in
    let (d, o) = both-done _ _ (sym (c.judge.ensures ∙ ap (λ x. earlier x (judged_operations a.num_atom a.num_rot (length a.r_carts.now) a.operations.now)) s) ∙ c.in_ok-judge.was) in
    (ready-whole g.O.Order.LIMIT g.O.Order.RANK (length a.fc.now) a.num_atom g.met.O.Order.small.0 d, le_trans (done_full g.O.Order.LIMIT g.O.Order.RANK (length a.fc.now) [] a.num_atom d).0 g.met.O.Order.small.1, operating a.num_atom a.num_rot (length a.r_carts.now) a.operations.now o)

pub returns-in_err-judge : goal.returns-in_err-judge
returns-in_err-judge g c =
    let a = c.args in
    let s = c.judge_full-s.ensures ∙ ap₂ (λ l m. judged_full l m (length a.fc.now) [] a.num_atom) c.LIMIT.ensures c.RANK.ensures in
    let p = err_from_is_err_and c.from_residual.result c.from_residual.ensures.1 in
    rw (p.1, p.2) (full-refused g.O.Order.LIMIT g.O.Order.RANK a.fc.now a.r_carts.now a.operations.now a.num_rot a.num_atom _ (sym (c.judge.ensures ∙ ap (λ x. earlier x (judged_operations a.num_atom a.num_rot (length a.r_carts.now) a.operations.now)) s) ∙ c.in_err-judge.was))

pub returns : goal.returns
returns g c =
    let a = c.args in
    let s = c.judge_full-s.ensures ∙ ap₂ (λ l m. judged_full l m (length a.fc.now) [] a.num_atom) c.LIMIT.ensures c.RANK.ensures in
    ap Ok c.conclude.ensures
    ∙ full-given g.O.Order.LIMIT g.O.Order.RANK a.fc.now a.r_carts.now a.operations.now a.num_rot a.num_atom (sym (c.judge.ensures ∙ ap (λ x. earlier x (judged_operations a.num_atom a.num_rot (length a.r_carts.now) a.operations.now)) s) ∙ c.in_ok-judge.was) c.scan_full-seen.ensures
