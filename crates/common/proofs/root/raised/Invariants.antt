use Prim.Native.Nat.{◌-◌, ◌*◌, ◌≤◌}
use Rattle.common.proofs.root.raised.Given as goal

abbrev pub invariant-loop-s : goal.invariant-loop-s
invariant-loop-s l = l.s * l.s ≤ l.n

abbrev pub decreases-loop-s : goal.decreases-loop-s
decreases-loop-s l = l.n - l.s * l.s
