use Prim.Native.Nat.{◌+◌, ◌*◌, ◌-◌, ◌≤◌}
use mathlib.Core.Path.{◌≡◌}
use lib.ListN.{length}
use Rattle.lists.specs.Tab.{times}
use Rattle.lines.specs.Lines.{pair_at}
use Rattle.fc2.proofs.full.average_before.Given as goal

abbrev pub invariant-loop-j : goal.invariant-loop-j
invariant-loop-j l = (l.j ≤ l.i) × (length l.fc ≡ length l.initial.fc) × (l.fc ≡ times l.j (λ k. pair_at (k * l.n + l.i) (l.i * l.n + k)) l.initial.fc)

abbrev pub decreases-loop-j : goal.decreases-loop-j
decreases-loop-j l = l.i - l.j
