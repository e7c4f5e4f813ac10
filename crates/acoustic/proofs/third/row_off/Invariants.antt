use Prim.Native.Nat.{◌+◌, ◌*◌, ◌-◌, ◌≤◌}
use mathlib.Core.Path.{◌≡◌}
use lib.ListN.{length}
use Rattle.lists.specs.Tab.{times}
use Rattle.tables.specs.Compact.{shifts_of, given}
use Rattle.acoustic.specs.Laws.{less_at}
use Rattle.acoustic.proofs.third.row_off.Given as goal

abbrev pub invariant-loop-k : goal.invariant-loop-k
invariant-loop-k l =
    (l.k ≤ l.tables.n_satom) × (length l.fc3 ≡ length l.initial.fc3)
    × (l.fc3 ≡ times l.k (λ k. less_at (shifts_of (given l.tables)) 2 l.leg 27 l.drift (l.row * l.tables.n_satom + k)) l.initial.fc3)

abbrev pub decreases-loop-k : goal.decreases-loop-k
decreases-loop-k l = l.tables.n_satom - l.k
