use Prim.Native.Nat.{◌+◌, ◌*◌, ◌≤◌}
use mathlib.Core.Path.{◌≡◌}
use Rattle.tables.specs.Compact.{shifts_of, given}
use Prim.Native.Nat.{◌-◌}
use lib.ListN.{length}
use Rattle.lists.specs.Tab.{times}
use Rattle.acoustic.specs.Laws.{less_at}
use Rattle.acoustic.proofs.fourth.row_off.Given as goal

abbrev pub invariant-loop-l : goal.invariant-loop-l
invariant-loop-l v =
    (v.l ≤ v.tables.n_satom) × (length v.fc4 ≡ length v.initial.fc4)
    × (v.fc4 ≡ times v.l (λ k. less_at (shifts_of (given v.tables)) 3 v.leg 81 v.drift (v.row * v.tables.n_satom + k)) v.initial.fc4)

abbrev pub decreases-loop-l : goal.decreases-loop-l
decreases-loop-l v = v.tables.n_satom - v.l
