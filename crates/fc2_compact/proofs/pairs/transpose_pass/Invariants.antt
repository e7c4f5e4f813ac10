use Rattle.tables.specs.Compact.{shifts_of, given}
use mathlib.Core.Path.{◌≡◌}
use Rattle.lists.specs.Tab.{times}
use Rattle.fc2_compact.specs.Visits.{transpose_visit}
use Rattle.fc2_compact.proofs.pairs.transpose_pass.Given as goal

abbrev pub invariant-loop-p : goal.invariant-loop-p
invariant-loop-p l =
    l.fc ≡ times l.p (λ p. times l.tables.n_satom (transpose_visit l.half_shifts_stay (shifts_of (given l.tables)) p)) l.initial.fc
