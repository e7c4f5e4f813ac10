use Rattle.tables.specs.Compact.{shifts_of, given}
use Rattle.audits.specs.Blocks.{AlikeTo}
use Rattle.audits.proofs.any_order.scan.Given as goal

abbrev pub invariant-loop-b : goal.invariant-loop-b
invariant-loop-b g l =
    AlikeTo (shifts_of (given l.tables)) g.O.Order.RANK g.O.Order.permutations l.fc l.b
