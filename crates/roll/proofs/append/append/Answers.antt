use Rattle.std.proofs.Common.{sym, ◌∙◌}
use Rattle.std.proofs.lemmas.Result.{err_from_is_err_and}
use Rattle.roll.specs.Format.{entry}
use Rattle.roll.specs.NumberLaws.{Bytes}
use Rattle.roll.proofs.AppendLaws.{may_add, leaves-new, leaves-old}
use borrow.Author.Rules.{rules}
use Rattle.roll.proofs.append.append.Goals as goal

pub add_record-requires : goal.add_record-requires
add_record-requires c =
    let a = c.args in
    let r = entry a.kind a.set a.earlier a.label.now in
    let B : Bytes a.lent.now = λ k. search rules in
    let m = may_add a.lent.now a.count r _ B (sym c.judge_append.ensures ∙ c.in_ok-long.was) in
    (m.0, m.1, m.2)

pub returns : goal.returns
returns c =
    let a = c.args in
    let r = entry a.kind a.set a.earlier a.label.now in
    let B : Bytes a.lent.now = λ k. search rules in
    leaves-new a.lent.now a.count r _ _ B (sym c.judge_append.ensures ∙ c.in_ok-long.was) c.add_record.ensures

pub returns-in_err-long : goal.returns-in_err-long
returns-in_err-long c =
    let a = c.args in
    let r = entry a.kind a.set a.earlier a.label.now in
    let p = err_from_is_err_and c.from_residual.result c.from_residual.ensures.1 in
    rw (p.1, p.2) (leaves-old a.lent.now a.count r _ (sym c.in_err-long.was ∙ c.judge_append.ensures))
