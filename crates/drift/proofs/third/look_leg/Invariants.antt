use Prim.Native.Nat.{◌+◌, ◌*◌, ◌-◌, ◌≤◌}
use mathlib.Core.Path.{◌≡◌}
use Rattle.lists.specs.Tab.{times}
use Rattle.lines.specs.Sums3x3.{zeros}
use Rattle.lines.specs.Lines.{line_sums}
use Rattle.drift.specs.Loops.{look_line}
use Rattle.drift.specs.Lines.{first_nine}
use Rattle.drift.proofs.third.look_leg.Given as goal

abbrev pub invariant-loop-e : goal.invariant-loop-e
invariant-loop-e l = (l.e ≤ l.count) × (l.seen ≡ times l.e (λ k. look_line (l.from + k) (line_sums (first_nine l.n l.step k) (l.step * 3) l.n l.fc zeros)) l.initial.seen)

abbrev pub decreases-loop-e : goal.decreases-loop-e
decreases-loop-e l = l.count - l.e
