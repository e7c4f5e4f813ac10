use mathlib.Core.Bool.{false}
use Prim.Native.Nat.{◌+◌, ◌*◌}
use mathlib.Core.Path.{◌≡◌}
use Rattle.lists.specs.Tab.{times}
use Rattle.tables.specs.Compact.{given}
use Rattle.transposes_fc4.specs.Loops.{trade_at}
use Rattle.transposes_fc4.proofs.legs.line.Given as goal

abbrev pub invariant-loop-l : goal.invariant-loop-l
invariant-loop-l v =
    let T = given v.tables in
    v.fc4 ≡ times v.l (λ l. trade_at false v.o T (((v.p.0 * v.tables.n_satom + v.j.0) * v.tables.n_satom + v.k.0) * v.tables.n_satom + l)) v.initial.fc4
