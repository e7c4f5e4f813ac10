use Rattle.tables.specs.Compact.{shifts_of, given}
use mathlib.Core.Path.{◌≡◌}
use Rattle.lists.specs.Tab.{times}
use Rattle.fc2_compact.specs.Visits.{average_visit}
use Rattle.fc2_compact.proofs.pairs.average_pass.Given as goal

abbrev pub invariant-loop-p : goal.invariant-loop-p
invariant-loop-p l =
    l.fc ≡ times l.p (λ p. times l.tables.n_satom (average_visit (shifts_of (given l.tables)) p)) l.initial.fc
