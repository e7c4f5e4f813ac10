use mathlib.Core.Path.{◌≡◌}
use Prim.Native.Nat.{◌-◌, ◌≤◌}
use Rattle.rotations.specs.Rotation.{sums}
use Rattle.rotations.proofs.rotated27.Given as goal

abbrev pub invariant-loop-q : goal.invariant-loop-q
invariant-loop-q l = (l.q ≤ 27) × (l.s ≡ sums 27 l.q 27 0 l.c l.t)

abbrev pub decreases-loop-q : goal.decreases-loop-q
decreases-loop-q l = 27 - l.q
