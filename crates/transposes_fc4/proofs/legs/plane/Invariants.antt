use mathlib.Core.Bool.{false}
use Prim.Native.Nat.{◌+◌, ◌*◌}
use mathlib.Core.Path.{◌≡◌}
use Rattle.lists.specs.Tab.{times}
use Rattle.tables.specs.Compact.{given}
use Rattle.transposes_fc4.specs.Loops.{line4}
use Rattle.transposes_fc4.proofs.legs.plane.Given as goal

abbrev pub invariant-loop-k : goal.invariant-loop-k
invariant-loop-k l =
    let T = given l.tables in
    l.fc4 ≡ times l.k (λ k. line4 false l.o T (l.p.0 * l.tables.n_satom + l.j.0) k) l.initial.fc4
