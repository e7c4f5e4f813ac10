use Rattle.std.proofs.Common.{sym}
use mathlib.Core.Path.{◌≡◌, ap}
use mathlib.Core.Logic.{inl, inr}
use native.Mathlib.Omega.{arith}
use Rattle.roll.specs.HoldingLaws.{is_sized, at-least-eight, count_is}
use borrow.Author.Tests.{not-true, not-false}
use Rattle.standing.specs.Steps.{many}
use Rattle.standing.proofs.StepsLaws.{not_7, not_9, not_11, not_8, may_add, the_list, no_add, count_small}
use Rattle.standing.proofs.retire.judge.Goals as goal

pub is_lawful-requires : goal.is_lawful-requires
is_lawful-requires c = (sym c.if-not-is_whole_roll.ensures, count_is _ c.count_in-n.ensures.0)

pub look_up-f-requires : goal.look_up-f-requires
look_up-f-requires c = (sym c.if-not-is_whole_roll.ensures, omega (arith, count_is _ c.count_in-n.ensures.0))

pub end_of-requires : goal.end_of-requires
end_of-requires c = (sym c.if-not-is_whole_roll.ensures, count_is _ c.count_in-n.ensures.0, c.requires.0)

pub gather-m-requires : goal.gather-m-requires
gather-m-requires c = (sym c.if-not-is_whole_roll.ensures, count_is _ c.count_in-n.ensures.0, c.requires.1)

pub returns-then-not-is_whole_roll : goal.returns-then-not-is_whole_roll
returns-then-not-is_whole_roll c =
    let a = c.args in
    (not_7 a.lent.now _ a.count a.x 0 c.roll_bytes-b.ensures (sym c.if-not-is_whole_roll.ensures), λ k q. no_add q)

pub returns-then-not-is_lawful : goal.returns-then-not-is_lawful
returns-then-not-is_lawful c =
    let a = c.args in (
      not_9 a.lent.now _ a.count a.x c.count_in-n.result c.roll_bytes-b.ensures (sym c.if-not-is_whole_roll.ensures) (count_is _ c.count_in-n.ensures.0)
          (sym c.if-not-is_lawful.ensures),
      λ k q. no_add q,
    )

pub returns-then-not-f : goal.returns-then-not-f
returns-then-not-f c =
    let a = c.args in (
      not_11 a.lent.now _ a.count a.x c.count_in-n.result c.roll_bytes-b.ensures (sym c.if-not-is_whole_roll.ensures) (count_is _ c.count_in-n.ensures.0)
          (sym c.if-not-is_lawful.ensures) c.look_up-f.ensures.notes (not-true _ c.if-not-f.true),
      λ k q. no_add q,
    )

pub returns-then-n-m-gt1000 : goal.returns-then-n-m-gt1000
returns-then-n-m-gt1000 c =
    let a = c.args in (
      not_8 a.lent.now _ a.count a.x c.count_in-n.result c.roll_bytes-b.ensures (sym c.if-not-is_whole_roll.ensures) (count_is _ c.count_in-n.ensures.0)
          (sym c.if-not-is_lawful.ensures) c.look_up-f.ensures.notes (not-false _ c.if-not-f.false) c.end_of.ensures.0 c.gather-m.ensures.2
          (elim c.then-n-m-gt1000.either [ inl h ↦ inl h | inr (inl h) ↦ inr (inl h.1) | inr (inr h) ↦ inr (inr h.2) ]),
      λ k q. no_add q,
    )

pub returns : goal.returns
returns c =
    let a = c.args in (
      may_add a.lent.now _ a.count a.x c.count_in-n.result c.roll_bytes-b.ensures (sym c.if-not-is_whole_roll.ensures) (count_is _ c.count_in-n.ensures.0)
          (sym c.if-not-is_lawful.ensures) c.look_up-f.ensures.notes (not-false _ c.if-not-f.false) c.end_of.ensures.0 c.gather-m.ensures.2
          (omega arith) (omega arith) (omega arith),
      λ k q. let z : c.gather-m.result ≡ k = ap many q in rw (← z)
          (the_list a.lent.now _ a.count a.x c.count_in-n.result c.roll_bytes-b.ensures (sym c.if-not-is_whole_roll.ensures) (count_is _ c.count_in-n.ensures.0)
          (sym c.if-not-is_lawful.ensures) c.look_up-f.ensures.notes (not-false _ c.if-not-f.false) c.end_of.ensures.0 c.gather-m.ensures.1),
    )

pub overflow_mul-long : goal.overflow_mul-long
overflow_mul-long c = omega (arith, c.gather-m.ensures.0, count_is _ c.count_in-n.ensures.0, (is_sized _ (sym c.if-not-is_whole_roll.ensures)).few)

pub overflow_add-long : goal.overflow_add-long
overflow_add-long c =
    let a = c.args in
    let R = sym c.if-not-is_whole_roll.ensures in
    omega (arith, c.gather-m.ensures.0, count_is _ c.count_in-n.ensures.0, (is_sized _ R).few, count_small a.lent.now _ a.count c.roll_bytes-b.ensures R)

pub overflow_add-n : goal.overflow_add-n
overflow_add-n c = omega (arith, c.gather-m.ensures.0, count_is _ c.count_in-n.ensures.0, (is_sized _ (sym c.if-not-is_whole_roll.ensures)).few)

pub count_in-n-requires : goal.count_in-n-requires
count_in-n-requires c =
    (at-least-eight _ (sym c.if-not-is_whole_roll.ensures), omega arith)
