use mathlib.Core.Path.{◌≡◌}
use Rattle.lists.specs.Tab.{times}
use Rattle.tables.specs.Compact.{given}
use Rattle.orbits.specs.GroupLoop.{State}
use Rattle.fc3.specs.Loops.{at3, visit_at}
use Rattle.fc3.proofs.compact.row.Given as goal

abbrev pub invariant-loop-k : goal.invariant-loop-k
invariant-loop-k l =
    let T = given l.tables in
    ◌≡◌ {A = State} (l.fc3, l.done) (times l.k (λ k. visit_at T (at3 T l.p.0 l.j.0 k)) (l.initial.fc3, l.initial.done))
