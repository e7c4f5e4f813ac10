use Rattle.std.proofs.Common.{sym, ◌∙◌}
use Rattle.roll.specs.HoldingLaws.{sized_for, not-roll, roll-by, count_is, trailer_is}
use Rattle.roll.proofs.judge.is_whole_roll.Goals as goal

pub lists_in_order-requires : goal.lists_in_order-requires
lists_in_order-requires c =
    let b = c.args.b.now in
    sized_for b _ _ (sym c.if-is_sized.ensures) (count_is b c.count_in.ensures.0) (trailer_is b c.trailer_in.ensures.0)

pub returns-then-is_sized : goal.returns-then-is_sized
returns-then-is_sized c =
    let b = c.args.b.now in
    roll-by b _ _ _ (sym c.if-is_sized.ensures) (count_is b c.count_in.ensures.0) (trailer_is b c.trailer_in.ensures.0) c.lists_in_order.ensures

pub returns-else-is_sized : goal.returns-else-is_sized
returns-else-is_sized c = c.if-is_sized.false ∙ not-roll c.args.b.now (sym c.if-is_sized.ensures)
