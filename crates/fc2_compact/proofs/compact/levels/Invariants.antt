use mathlib.Core.Path.{◌≡◌}
use Rattle.lists.specs.Tab.{times}
use Rattle.tables.specs.Compact.{shifts_of, given}
use Rattle.fc2_compact.specs.Compact.{leveled}
use Rattle.fc2_compact.proofs.compact.levels.Given as goal

abbrev pub invariant-loop : goal.invariant-loop
invariant-loop l =
    l.fc ≡ times l.counter (λ _. leveled (shifts_of (given l.tables))) l.initial.fc
