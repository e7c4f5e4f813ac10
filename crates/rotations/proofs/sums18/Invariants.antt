use mathlib.Core.Path.{◌≡◌}
use Prim.Native.Nat.{◌-◌, ◌≤◌}
use lib.ListN.{length}
use Rattle.rotations.specs.Rotation.{sums}
use Rattle.rotations.proofs.sums18.Given as goal

abbrev pub invariant-loop-q : goal.invariant-loop-q
invariant-loop-q l = (l.q ≤ length l.t) × (l.s ≡ sums 18 l.q (length l.t) l.first l.c l.t)

abbrev pub decreases-loop-q : goal.decreases-loop-q
decreases-loop-q l = length l.t - l.q
