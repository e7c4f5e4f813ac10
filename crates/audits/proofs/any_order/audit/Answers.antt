use Rattle.std.proofs.lemmas.Result.{err_from_is_err_and}
use native.Mathlib.Nat.{le_trans}
use mathlib.Core.Path.{sym, ap₂, ◌∙◌}
use mathlib.Core.List.{[]}
use lib.ListN.{length}
use Rattle.tables.specs.Full.{judged_full, done_full}
use Rattle.audits.specs.Guard.{ready-whole, whole-refused, whole-done}
use Rattle.audits.proofs.any_order.audit.Goals as goal

pub returns-in_err-judge_full : goal.returns-in_err-judge_full
returns-in_err-judge_full g c =
    let a = c.args in
    let s = c.judge_full.ensures ∙ ap₂ (λ l m. judged_full l m (length a.fc.now) [] a.num_atom) c.LIMIT.ensures c.RANK.ensures in
    let p = err_from_is_err_and c.from_residual.result c.from_residual.ensures.1 in
    rw (p.1, p.2) (whole-refused g.O.Order.LIMIT g.O.Order.RANK g.O.Order.permutations a.fc.now a.num_atom _ (sym s ∙ c.in_err-judge_full.was))

pub scan_full-requires : goal.scan_full-requires
scan_full-requires g c =
    let a = c.args in
    let s = c.judge_full.ensures ∙ ap₂ (λ l m. judged_full l m (length a.fc.now) [] a.num_atom) c.LIMIT.ensures c.RANK.ensures in
    let e = sym s ∙ c.in_ok-judge_full.was in
    let few = (done_full g.O.Order.LIMIT g.O.Order.RANK (length a.fc.now) [] a.num_atom e).0 in
    let h = le_trans few g.met.O.Order.small.1 in
    (ready-whole g.O.Order.LIMIT g.O.Order.RANK (length a.fc.now) a.num_atom g.met.O.Order.small.0 e, h)

pub returns : goal.returns
returns g c =
    let a = c.args in
    let s = c.judge_full.ensures ∙ ap₂ (λ l m. judged_full l m (length a.fc.now) [] a.num_atom) c.LIMIT.ensures c.RANK.ensures in
    whole-done g.O.Order.LIMIT g.O.Order.RANK g.O.Order.permutations a.fc.now a.num_atom (sym s ∙ c.in_ok-judge_full.was) c.scan_full.ensures

pub judge_full-requires : goal.judge_full-requires
judge_full-requires g c = rw (c.LIMIT.ensures, c.RANK.ensures) (g.met.O.Order.small.1, g.met.O.Order.small.2)
