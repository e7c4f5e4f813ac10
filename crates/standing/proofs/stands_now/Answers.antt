use Rattle.std.proofs.Common.{sym}
use mathlib.Core.Path.{ap, ◌∙◌}
use mathlib.Core.List.{List}
use Prim.Native.Nat.{ℕ}
use native.Mathlib.Omega.{arith}
use Rattle.roll.specs.HoldingLaws.{at-least-eight, count_is}
use Rattle.standing.specs.Register.{stands_now}
use Rattle.standing.specs.Walk.{no-roll, no-law, by_rules}
use Rattle.standing.proofs.stands_now.Goals as goal

pub returns-then-not-is_whole_roll : goal.returns-then-not-is_whole_roll
returns-then-not-is_whole_roll c =
    let x = c.args.set in
    no-roll _ x (sym c.if-not-is_whole_roll.ensures) ∙ ap (λ (l : List ℕ). stands_now l x) c.roll_bytes-b.ensures

pub is_lawful-requires : goal.is_lawful-requires
is_lawful-requires c = (sym c.if-not-is_whole_roll.ensures, count_is _ c.count_in-n.ensures.0)

pub returns-then-not-is_lawful : goal.returns-then-not-is_lawful
returns-then-not-is_lawful c =
    let x = c.args.set in
    no-law _ x c.count_in-n.result (sym c.if-not-is_whole_roll.ensures) (count_is _ c.count_in-n.ensures.0) (sym c.if-not-is_lawful.ensures) ∙ ap (λ (l : List ℕ). stands_now l x) c.roll_bytes-b.ensures

pub follow-requires : goal.follow-requires
follow-requires c = (sym c.if-not-is_whole_roll.ensures, count_is _ c.count_in-n.ensures.0, omega arith, sym c.if-not-is_lawful.ensures)

pub returns : goal.returns
returns c =
    let x = c.args.set in
    by_rules _ x c.count_in-n.result (sym c.if-not-is_whole_roll.ensures) (count_is _ c.count_in-n.ensures.0) (sym c.if-not-is_lawful.ensures) c.follow.ensures ∙ ap (λ (l : List ℕ). stands_now l x) c.roll_bytes-b.ensures

pub count_in-n-requires : goal.count_in-n-requires
count_in-n-requires c =
    (at-least-eight _ (sym c.if-not-is_whole_roll.ensures), omega arith)
