use mathlib.Core.Path.{◌≡◌}
use Rattle.lists.specs.Tab.{times}
use Rattle.tables.specs.Compact.{shifts_of, given}
use Rattle.differences.specs.Laws.{block_seen}
use Rattle.differences.proofs.any_order.scan.Given as goal

abbrev pub invariant-loop-b : goal.invariant-loop-b
invariant-loop-b g l =
    l.seen ≡ times l.b (block_seen (shifts_of (given l.tables)) g.O.Order.RANK g.O.Order.permutations l.fc g.row.N) l.initial.seen
