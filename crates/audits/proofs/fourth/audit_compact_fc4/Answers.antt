use Rattle.std.proofs.lemmas.Result.{err_from_is_err_and}
use mathlib.Core.Path.{sym, ◌∙◌}
use lib.Dec.{lit≤}
use lib.ListN.{length}
use Rattle.tables.specs.Limits.{limit4}
use Rattle.tables.specs.Compact.{given}
use Rattle.places.specs.Permutations.{perms4}
use Rattle.audits.specs.Guard.{ready_compact, compact_refused, compact_done}
use Rattle.audits.proofs.fourth.audit_compact_fc4.Goals as goal

pub judge_set-requires : goal.judge_set-requires
judge_set-requires c = (lit≤ tt, lit≤ tt)

pub returns-in_err-judge_set : goal.returns-in_err-judge_set
returns-in_err-judge_set c =
    let s = c.args in
    let a = s in
    let p = err_from_is_err_and c.from_residual.result c.from_residual.ensures.1 in
    rw (p.1, p.2) (compact_refused limit4 3 perms4 a.fc.now (given a.tables.now) _ (sym c.judge_set.ensures ∙ c.in_err-judge_set.was))

pub scan-requires : goal.scan-requires
scan-requires c =
    let a = c.args in
    ready_compact limit4 3 (length a.fc.now) (given a.tables.now) (sym c.judge_set.ensures ∙ c.in_ok-judge_set.was)

pub returns : goal.returns
returns c =
    let a = c.args in
    compact_done limit4 3 perms4 a.fc.now (given a.tables.now) (sym c.judge_set.ensures ∙ c.in_ok-judge_set.was) c.scan.ensures
