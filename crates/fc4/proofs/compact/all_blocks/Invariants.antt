use mathlib.Core.Path.{◌≡◌}
use Rattle.lists.specs.Tab.{times}
use Rattle.tables.specs.Compact.{shifts_of, given}
use Rattle.orbits.specs.GroupLoop.{State}
use Rattle.fc4.specs.Loops.{visit_at}
use Rattle.fc4.proofs.compact.all_blocks.Given as goal

abbrev pub invariant-loop-b : goal.invariant-loop-b
invariant-loop-b l =
    let T = given l.tables in
    ◌≡◌ {A = State} (l.fc4, l.done) (times l.b (visit_at (shifts_of T)) (l.initial.fc4, l.initial.done))
