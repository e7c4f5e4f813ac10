use Rattle.std.proofs.lemmas.Result.{err_from_is_err_and}
use mathlib.Core.Path.{sym, ap₂, ◌∙◌}
use mathlib.Core.List.{[]}
use lib.ListN.{length}
use Rattle.tables.specs.Compact.{given, judged_set}
use Rattle.audits.specs.Guard.{ready_compact, compact_refused, compact_done}
use Rattle.audits.proofs.any_order.audit_compact.Goals as goal

pub judge_set-requires : goal.judge_set-requires
judge_set-requires g c = rw (c.LIMIT.ensures, c.RANK.ensures) (g.met.O.Order.small.1, g.met.O.Order.small.2)

pub returns-in_err-judge_set : goal.returns-in_err-judge_set
returns-in_err-judge_set g c =
    let a = c.args in
    let s = c.judge_set.ensures ∙ ap₂ (λ l m. judged_set l m (length a.fc.now) [] (given a.tables.now)) c.LIMIT.ensures c.RANK.ensures in
    let p = err_from_is_err_and c.from_residual.result c.from_residual.ensures.1 in
    rw (p.1, p.2) (compact_refused g.O.Order.LIMIT g.O.Order.RANK g.O.Order.permutations a.fc.now (given a.tables.now) _ (sym s ∙ c.in_err-judge_set.was))

pub settle-requires : goal.settle-requires
settle-requires g c =
    let a = c.args in
    let s = c.judge_set.ensures ∙ ap₂ (λ l m. judged_set l m (length a.fc.now) [] (given a.tables.now)) c.LIMIT.ensures c.RANK.ensures in
    ready_compact g.O.Order.LIMIT g.O.Order.RANK (length a.fc.now) (given a.tables.now) (sym s ∙ c.in_ok-judge_set.was)

pub returns : goal.returns
returns g c =
    let a = c.args in
    let s = c.judge_set.ensures ∙ ap₂ (λ l m. judged_set l m (length a.fc.now) [] (given a.tables.now)) c.LIMIT.ensures c.RANK.ensures in
    compact_done g.O.Order.LIMIT g.O.Order.RANK g.O.Order.permutations a.fc.now (given a.tables.now) (sym s ∙ c.in_ok-judge_set.was) c.settle.ensures
