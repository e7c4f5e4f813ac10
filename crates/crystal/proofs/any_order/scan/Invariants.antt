use Prim.Native.Nat.{◌-◌, ◌≤◌}
use mathlib.Core.Path.{◌≡◌}
use Rattle.lists.specs.Tab.{times}
use Rattle.lists.specs.Digits.{times_power}
use Rattle.tables.specs.Compact.{shifts_of, given}
use Rattle.crystal.specs.Laws.{operation_seen}
use Rattle.crystal.proofs.any_order.scan.Given as goal

abbrev pub invariant-loop-r : goal.invariant-loop-r
invariant-loop-r g l =
    (l.r ≤ l.num_rot)
    × (l.seen ≡ times l.r (operation_seen (shifts_of (given l.tables)) g.O.Order.RANK l.r_carts l.operations l.fc g.row.N (times_power l.tables.n_satom g.O.Order.RANK l.tables.n_patom)) l.initial.seen)

abbrev pub decreases-loop-r : goal.decreases-loop-r
decreases-loop-r g l = l.num_rot - l.r
