use mathlib.Core.Path.{◌≡◌}
use mathlib.Core.Bool.{false}
use lib.Dec.{eqb}
use Rattle.lists.specs.Tests.{some}
use Rattle.tables.specs.Conditions.{index_at}
use Rattle.distribute.proofs.fc2.listed.Given as goal

abbrev pub invariant-loop-i : goal.invariant-loop-i
invariant-loop-i l = some l.i (λ k. eqb (index_at l.atom_list k) l.atom) ≡ false
