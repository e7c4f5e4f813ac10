use Rattle.tables.specs.Compact.{shifts_of, given}
use mathlib.Core.Path.{◌≡◌}
use Rattle.lists.specs.Tab.{times}
use Rattle.fc2_compact.specs.Visits.{transpose_visit}
use Rattle.fc2_compact.proofs.pairs.transpose_row.Given as goal

abbrev pub invariant-loop-j : goal.invariant-loop-j
invariant-loop-j l =
    l.fc ≡ times l.j (transpose_visit l.half_shifts_stay (shifts_of (given l.tables)) l.p) l.initial.fc
