use Rattle.std.proofs.lemmas.Result.{err_from_is_err_and}
use Rattle.std.specs.Prelude.{Ok}
use native.Mathlib.Nat.{le_trans}
use mathlib.Core.Path.{sym, ap, ap₂, ◌∙◌}
use mathlib.Core.List.{[]}
use lib.ListN.{length}
use Rattle.tables.specs.Compact.{ShiftTables, given, judged_set}
use Rattle.audits.specs.Guard.{ready_compact}
use Rattle.crystal.specs.Crystal.{earlier, judged_operations}
use Rattle.crystal.specs.Laws.{both-done, operating, set-few, compact_given, compact_refused}
use Rattle.crystal.proofs.any_order.crystal_report_compact.Goals as goal

pub judge_set-s-requires : goal.judge_set-s-requires
judge_set-s-requires g c = rw (c.LIMIT.ensures, c.RANK.ensures) (g.met.O.Order.small.1, g.met.O.Order.small.2)

pub judge-requires : goal.judge-requires
judge-requires g c =
    let a = c.args in
    let T : ShiftTables = given a.tables.now in
    let s = c.judge_set-s.ensures ∙ ap₂ (λ l m. judged_set l m (length a.fc.now) [] T) c.LIMIT.ensures c.RANK.ensures in
    λ d. le_trans (set-few g.O.Order.LIMIT g.O.Order.RANK (length a.fc.now) T s d) g.met.O.Order.small.1

pub scan-seen-requires : goal.scan-seen-requires
scan-seen-requires g c =
    let a = c.args in
    let T : ShiftTables = given a.tables.now in
    let s = c.judge_set-s.ensures ∙ ap₂ (λ l m. judged_set l m (length a.fc.now) [] T) c.LIMIT.ensures c.RANK.ensures in
    let (d, o) = both-done _ _ (sym (c.judge.ensures ∙ ap (λ x. earlier x (judged_operations a.tables.now.n_satom a.num_rot (length a.r_carts.now) a.operations.now)) s) ∙ c.in_ok-judge.was) in
    (ready_compact g.O.Order.LIMIT g.O.Order.RANK (length a.fc.now) T d, operating a.tables.now.n_satom a.num_rot (length a.r_carts.now) a.operations.now o)

pub returns-in_err-judge : goal.returns-in_err-judge
returns-in_err-judge g c =
    let a = c.args in
    let T : ShiftTables = given a.tables.now in
    let s = c.judge_set-s.ensures ∙ ap₂ (λ l m. judged_set l m (length a.fc.now) [] T) c.LIMIT.ensures c.RANK.ensures in
    let p = err_from_is_err_and c.from_residual.result c.from_residual.ensures.1 in
    rw (p.1, p.2) (compact_refused g.O.Order.LIMIT g.O.Order.RANK a.fc.now a.r_carts.now a.operations.now a.num_rot T _ (sym (c.judge.ensures ∙ ap (λ x. earlier x (judged_operations a.tables.now.n_satom a.num_rot (length a.r_carts.now) a.operations.now)) s) ∙ c.in_err-judge.was))

pub returns : goal.returns
returns g c =
    let a = c.args in
    let T : ShiftTables = given a.tables.now in
    let s = c.judge_set-s.ensures ∙ ap₂ (λ l m. judged_set l m (length a.fc.now) [] T) c.LIMIT.ensures c.RANK.ensures in
    ap Ok c.conclude.ensures
    ∙ compact_given g.O.Order.LIMIT g.O.Order.RANK a.fc.now a.r_carts.now a.operations.now a.num_rot T (sym (c.judge.ensures ∙ ap (λ x. earlier x (judged_operations a.tables.now.n_satom a.num_rot (length a.r_carts.now) a.operations.now)) s) ∙ c.in_ok-judge.was) c.scan-seen.ensures
