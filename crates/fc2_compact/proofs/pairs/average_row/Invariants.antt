use Rattle.tables.specs.Compact.{shifts_of, given}
use mathlib.Core.Path.{◌≡◌}
use Rattle.lists.specs.Tab.{times}
use Rattle.fc2_compact.specs.Visits.{average_visit}
use Rattle.fc2_compact.proofs.pairs.average_row.Given as goal

abbrev pub invariant-loop-j : goal.invariant-loop-j
invariant-loop-j l =
    l.fc ≡ times l.j (average_visit (shifts_of (given l.tables)) l.p) l.initial.fc
