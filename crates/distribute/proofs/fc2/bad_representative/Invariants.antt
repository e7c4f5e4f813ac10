use mathlib.Core.Path.{◌≡◌}
use mathlib.Core.Bool.{false, not}
use Rattle.lists.specs.Tests.{some}
use Rattle.distribute.specs.Fc2.{represented}
use Rattle.distribute.proofs.fc2.bad_representative.Given as goal

abbrev pub invariant-loop-i : goal.invariant-loop-i
invariant-loop-i l = some l.i (λ k. not (represented l.atom_list l.map_atoms k)) ≡ false
