use mathlib.Core.Path.{◌≡◌}
use Prim.Native.Nat.{ℕ, ◌+◌, ◌-◌, ◌*◌, ◌<◌, ◌≤◌}
use lib.ListN.{length, get_or}
use lib.Ieee.{nan}
use Rattle.rotations.specs.Rotation.{widened_at}
use Rattle.rotations.proofs.widen_row.Given as goal

abbrev pub invariant-loop-a : goal.invariant-loop-a
invariant-loop-a l = (l.a ≤ l.w) × (length l.into ≡ length l.initial.into) × ((k : ℕ) → k < l.q * (3 * l.w) + l.a * 3 → get_or l.into k nan ≡ widened_at l.w l.before l.m k)

abbrev pub decreases-loop-a : goal.decreases-loop-a
decreases-loop-a l = l.w - l.a
