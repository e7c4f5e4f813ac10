use mathlib.Core.Path.{◌≡◌}
use Rattle.lists.specs.Tab.{times}
use Rattle.tables.specs.Compact.{given}
use Rattle.transposes_fc4.specs.Loops.{plane4}
use Rattle.transposes_fc4.proofs.legs.pairs.Given as goal

abbrev pub invariant-loop-q : goal.invariant-loop-q
invariant-loop-q l =
    let T = given l.tables in
    l.fc4 ≡ times l.q (λ q. plane4 l.half_shifts_stay l.o T q) l.initial.fc4
