use Prim.Native.Nat.{◌-◌, ◌≤◌}
use mathlib.Core.Path.{◌≡◌}
use lib.ListN.{length}
use Rattle.lists.specs.Tab.{times}
use Rattle.tables.specs.Compact.{shifts_of, given}
use Rattle.acoustic.specs.Laws.{drift_put}
use Rattle.acoustic.proofs.fourth.drifts.Given as goal

abbrev pub invariant-loop-r : goal.invariant-loop-r
invariant-loop-r l =
    (l.r ≤ l.count) × (length l.drift ≡ length l.initial.drift) × (l.drift ≡ times l.r (drift_put (shifts_of (given l.tables)) 3 l.leg 81 l.fc4 l.inv_n) l.initial.drift)

abbrev pub decreases-loop-r : goal.decreases-loop-r
decreases-loop-r l = l.count - l.r
