use Prim.Native.Nat.{◌+◌, ◌*◌, ◌-◌, ◌≤◌}
use mathlib.Core.Path.{◌≡◌}
use Rattle.lists.specs.Tab.{times}
use Rattle.lines.specs.Sums3x3.{zeros}
use Rattle.lines.specs.Lines.{line_sums}
use Rattle.drift.specs.Loops.{look_line}
use Rattle.drift.proofs.full.look_lines.Given as goal

abbrev pub invariant-loop-i : goal.invariant-loop-i
invariant-loop-i l = (l.i ≤ l.n) × (l.seen ≡ times l.i (λ k. look_line (l.first + k) (line_sums (k * l.apart) l.step l.n l.fc zeros)) l.initial.seen)

abbrev pub decreases-loop-i : goal.decreases-loop-i
decreases-loop-i l = l.n - l.i
