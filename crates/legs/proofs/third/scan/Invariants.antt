use Prim.Native.Nat.{◌-◌, ◌≤◌}
use mathlib.Core.Path.{◌≡◌}
use Rattle.lists.specs.Tab.{times}
use Rattle.tables.specs.Compact.{shifts_of, given}
use Rattle.legs.specs.Laws.{leg_seen}
use Rattle.legs.proofs.third.scan.Given as goal

abbrev pub invariant-loop-e : goal.invariant-loop-e
invariant-loop-e l =
    l.seen ≡ times l.e (leg_seen (shifts_of (given l.tables)) 2 l.fc 27) l.initial.seen
