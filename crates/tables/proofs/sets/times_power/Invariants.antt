use mathlib.Core.Path.{◌≡◌}
use Rattle.lists.specs.Digits.{times_power}
use Rattle.tables.proofs.sets.times_power.Given as goal

abbrev pub invariant-loop : goal.invariant-loop
invariant-loop l = l.x ≡ times_power l.b l.counter l.n
