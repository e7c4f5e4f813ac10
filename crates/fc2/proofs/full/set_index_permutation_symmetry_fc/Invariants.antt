use Prim.Native.Nat.{◌+◌, ◌*◌, ◌-◌, ◌≤◌}
use mathlib.Core.Path.{◌≡◌}
use lib.ListN.{length}
use Rattle.lists.specs.Tab.{times}
use Rattle.fc2.specs.FullLoops.{own_at, pairs_before}
use Rattle.fc2.proofs.full.set_index_permutation_symmetry_fc.Given as goal

abbrev pub invariant-loop-i : goal.invariant-loop-i
invariant-loop-i l = (l.i ≤ l.n) × (length l.fc ≡ length l.initial.fc) × (l.fc ≡ times l.i (λ k xs. own_at (k * l.n + k) (pairs_before l.n k xs)) l.initial.fc)

abbrev pub decreases-loop-i : goal.decreases-loop-i
decreases-loop-i l = l.n - l.i
