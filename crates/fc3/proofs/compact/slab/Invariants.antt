use mathlib.Core.Path.{◌≡◌}
use Rattle.lists.specs.Tab.{times}
use Rattle.tables.specs.Compact.{given}
use Rattle.orbits.specs.GroupLoop.{State}
use Rattle.fc3.specs.Loops.{row3}
use Rattle.fc3.proofs.compact.slab.Given as goal

abbrev pub invariant-loop-j : goal.invariant-loop-j
invariant-loop-j l =
    let T = given l.tables in
    ◌≡◌ {A = State} (l.fc3, l.done) (times l.j (λ j. row3 T l.p.0 j) (l.initial.fc3, l.initial.done))
