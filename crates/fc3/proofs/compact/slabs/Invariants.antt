use mathlib.Core.Path.{◌≡◌}
use Rattle.lists.specs.Tab.{times}
use Rattle.tables.specs.Compact.{given}
use Rattle.orbits.specs.GroupLoop.{State}
use Rattle.fc3.specs.Loops.{slab3}
use Rattle.fc3.proofs.compact.slabs.Given as goal

abbrev pub invariant-loop-p : goal.invariant-loop-p
invariant-loop-p l =
    let T = given l.tables in
    ◌≡◌ {A = State} (l.fc3, l.done) (times l.p (λ p. slab3 T p) (l.initial.fc3, l.initial.done))
