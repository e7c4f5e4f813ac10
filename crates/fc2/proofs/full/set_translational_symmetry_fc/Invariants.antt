use Prim.Native.Nat.{◌-◌, ◌≤◌}
use mathlib.Core.Path.{◌≡◌}
use lib.ListN.{length}
use Rattle.lists.specs.Tab.{times}
use Rattle.lines.specs.Lines.{balance_at}
use Rattle.fc2.proofs.full.set_translational_symmetry_fc.Given as goal

abbrev pub invariant-loop-i : goal.invariant-loop-i
invariant-loop-i l = (l.i ≤ l.n) × (length l.fc ≡ length l.initial.fc) × (l.fc ≡ times l.i (balance_at l.n (λ k. k)) l.initial.fc)

abbrev pub decreases-loop-i : goal.decreases-loop-i
decreases-loop-i l = l.n - l.i
