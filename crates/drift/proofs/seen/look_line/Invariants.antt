use Prim.Native.Nat.{◌+◌, ◌*◌, ◌-◌, ◌≤◌}
use mathlib.Core.Path.{◌≡◌}
use Rattle.lists.specs.Tab.{times}
use Rattle.lines.specs.Sums3x3.{sum_in}
use Rattle.reports.specs.Loops.{look}
use Rattle.drift.proofs.seen.look_line.Given as goal

abbrev pub invariant-loop-p : goal.invariant-loop-p
invariant-loop-p l = (l.p ≤ 9) × (l.seen ≡ times l.p (λ k. look (l.q * 9 + k) (sum_in l.s k)) l.initial.seen)

abbrev pub decreases-loop-p : goal.decreases-loop-p
decreases-loop-p l = 9 - l.p
