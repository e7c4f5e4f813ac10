use mathlib.Core.Path.{◌≡◌}
use Rattle.lists.specs.Tab.{times}
use Rattle.tables.specs.Compact.{given}
use Rattle.transposes_fc3.specs.Fc3Loops.{row_t}
use Rattle.transposes_fc3.proofs.slab.Given as goal

abbrev pub invariant-loop-j : goal.invariant-loop-j
invariant-loop-j l =
    let T = given l.tables in
    l.fc3 ≡ times l.j (λ j. row_t l.half_shifts_stay T l.t l.p.0 j) l.initial.fc3
