use Prim.Native.Nat.{ℕ, ◌-◌, ◌≤◌, ◌<◌}
use mathlib.Core.Bool.{true}
use mathlib.Core.Path.{◌≡◌}
use Rattle.lines.specs.Sums3x3.{sum_in}
use Rattle.reports.specs.Floats.{at_most}
use Rattle.drift.proofs.seen.calm.Given as goal

abbrev pub invariant-loop-p : goal.invariant-loop-p
invariant-loop-p l = (l.p ≤ 9) × ((k : ℕ) → k < l.p → at_most l.worst (sum_in l.s k) ≡ true)

abbrev pub decreases-loop-p : goal.decreases-loop-p
decreases-loop-p l = 9 - l.p
