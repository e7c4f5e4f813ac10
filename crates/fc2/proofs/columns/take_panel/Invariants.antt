use Prim.Native.Nat.{◌+◌, ◌*◌, ◌-◌, ◌≤◌}
use mathlib.Core.Path.{◌≡◌}
use lib.ListN.{length}
use Rattle.lists.specs.Tab.{times}
use Rattle.fc2.specs.FullLoops.{less8}
use Rattle.fc2.proofs.columns.take_panel.Given as goal

abbrev pub invariant-loop-i : goal.invariant-loop-i
invariant-loop-i l = (l.i ≤ l.n) × (length l.fc ≡ length l.initial.fc) × (l.fc ≡ times l.i (λ a. less8 l.d (a * l.n + l.j)) l.initial.fc)

abbrev pub decreases-loop-i : goal.decreases-loop-i
decreases-loop-i l = l.n - l.i
