use mathlib.Core.Path.{◌≡◌}
use Rattle.lists.specs.Tab.{times}
use Rattle.places.specs.WholeLaws.{full_shifts}
use Rattle.orbits.specs.GroupLoop.{State}
use Rattle.fc4.specs.Loops.{visit_at}
use Rattle.fc4.proofs.full.full_blocks.Given as goal

abbrev pub invariant-loop-b : goal.invariant-loop-b
invariant-loop-b l =
    ◌≡◌ {A = State} (l.fc4, l.done) (times l.b (visit_at (full_shifts l.num_atom)) (l.initial.fc4, l.initial.done))
