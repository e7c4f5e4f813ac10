use Rattle.std.proofs.Common.{◌≡◌, true, sym, ap, ◌∙◌, inl, inr, arith}
use borrow.Author.Tests.{le-leb, lt-leb}
use Rattle.std.proofs.Math.Dec.{leb}
use Rattle.std.proofs.Math.ListN.{length}
use Rattle.lists.specs.Tests.{both}
use Rattle.roll.specs.Format.{entry, record_ruled, keeps_rules}
use Rattle.roll.specs.Reading.{holds_roll}
use Rattle.roll.specs.HoldingLaws.{is_there, at_least, within-limits, count-read}
use Rattle.roll.specs.AppendingLaws.{answer-not, answer-long, answer-done}
use Rattle.roll.proofs.append.judge_append.Goals as goal
use Rattle.roll.proofs.append.judge_append.Goals.{Else-label-gt255}

-- a roll, and a record that keeps the rules
passed : (c : Else-label-gt255) → (holds_roll c.args.lent.now c.args.count ≡ true) × (keeps_rules (entry c.args.kind c.args.set c.args.earlier c.args.label.now) ≡ true)
passed c =
    let a = c.args in
    let ruled = ap (λ k. record_ruled k a.set a.earlier) (sym c.from.ensures) ∙ sym c.if-not-is_ruled.ensures in
    (sym c.if-not-is_roll.ensures, both (record_ruled a.kind a.set a.earlier) (leb (length a.label.now) 255) ruled (le-leb (length a.label.now) 255 c.if-label-gt255.false))

pub returns-then-not-is_roll : goal.returns-then-not-is_roll
returns-then-not-is_roll c =
    let a = c.args in
    answer-not a.lent.now a.count (entry a.kind a.set a.earlier a.label.now) (inl (sym c.if-not-is_roll.ensures))

pub returns-then-not-is_ruled : goal.returns-then-not-is_ruled
returns-then-not-is_ruled c =
    let a = c.args in
    answer-not a.lent.now a.count (entry a.kind a.set a.earlier a.label.now) (elim c.then-not-is_ruled.either [
      | inl e ↦ inr (inl (ap (λ k. record_ruled k a.set a.earlier) (sym c.from.ensures) ∙ sym c.is_ruled.ensures ∙ e))
      | inr h ↦ inr (inr (lt-leb (length a.label.now) 255 h.1))
    ])

pub overflow_add-long-2 : goal.overflow_add-long-2
overflow_add-long-2 c = omega (arith, (within-limits c.args.lent.now c.args.count (sym c.if-not-is_roll.ensures)).1)

pub count_in-requires : goal.count_in-requires
count_in-requires c =
    let H = sym c.if-not-is_roll.ensures in
    (at_least c.args.lent.now c.args.count H, is_there c.args.lent.now c.args.count H)

pub returns-then-count_in-gt999 : goal.returns-then-count_in-gt999
returns-then-count_in-gt999 c =
    let a = c.args in
    let (H, k) = passed (goal.at.returns-then-count_in-gt999 c).Else-label-gt255 in
    let e = c.count_in.ensures.0 ∙ count-read a.lent.now a.count H in
    answer-long a.lent.now a.count (entry a.kind a.set a.earlier a.label.now) H (λ i. omega (arith, c.type_inv.lent i)) (elim c.then-count_in-gt999.either [
      | inl h ↦ inl (omega (arith, e))
      | inr (inl h) ↦ inr (inl h.1)
      | inr (inr h) ↦ inr (inr h.2)
    ]) k

pub returns : goal.returns
returns c =
    let a = c.args in
    let (H, k) = passed (goal.at.returns c).Else-label-gt255 in
    let e = c.count_in.ensures.0 ∙ count-read a.lent.now a.count H in
    answer-done a.lent.now a.count (entry a.kind a.set a.earlier a.label.now) H (λ i. omega (arith, c.type_inv.lent i)) (omega (arith, e)) (omega arith) (omega arith) k
