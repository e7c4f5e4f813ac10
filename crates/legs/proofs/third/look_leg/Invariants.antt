use Prim.Native.Nat.{◌-◌, ◌≤◌}
use mathlib.Core.Path.{◌≡◌}
use Rattle.lists.specs.Tab.{times}
use Rattle.tables.specs.Compact.{shifts_of, given}
use Rattle.legs.specs.Laws.{line_seen}
use Rattle.legs.proofs.third.look_leg.Given as goal

abbrev pub invariant-loop-t : goal.invariant-loop-t
invariant-loop-t l =
    l.seen ≡ times l.t (line_seen (shifts_of (given l.tables)) 2 l.fc 27 l.e) l.initial.seen
