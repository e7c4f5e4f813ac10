use mathlib.Core.Path.{◌≡◌}
use Rattle.lists.specs.Tab.{times}
use Rattle.tables.specs.Compact.{given}
use Rattle.transposes_fc3.specs.Fc3Loops.{slab_t}
use Rattle.transposes_fc3.proofs.slabs.Given as goal

abbrev pub invariant-loop-p : goal.invariant-loop-p
invariant-loop-p l =
    let T = given l.tables in
    l.fc3 ≡ times l.p (λ p. slab_t l.half_shifts_stay T l.t p) l.initial.fc3
