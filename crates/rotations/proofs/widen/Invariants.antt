use mathlib.Core.Path.{◌≡◌}
use Prim.Native.Nat.{ℕ, ◌-◌, ◌*◌, ◌<◌, ◌≤◌}
use lib.ListN.{length, get_or}
use lib.Ieee.{nan}
use Rattle.rotations.specs.Rotation.{widened_at}
use Rattle.rotations.proofs.widen.Given as goal

abbrev pub invariant-loop-q : goal.invariant-loop-q
invariant-loop-q l = (l.q ≤ 3 * l.w) × (length l.into ≡ length l.initial.into) × ((k : ℕ) → k < l.q * (3 * l.w) → get_or l.into k nan ≡ widened_at l.w l.before l.m k)

abbrev pub decreases-loop-q : goal.decreases-loop-q
decreases-loop-q l = 3 * l.w - l.q
