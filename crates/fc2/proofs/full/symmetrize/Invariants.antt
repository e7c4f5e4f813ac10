use Rattle.fc2.specs.FullLoops.{swept}
use Rattle.lists.specs.Tab.{times}
use mathlib.Core.Path.{◌≡◌}
use lib.ListN.{length}
use Prim.Native.Nat.{◌≤◌, ◌-◌}
use Rattle.fc2.proofs.full.symmetrize.Given as goal

abbrev pub invariant-loop-t : goal.invariant-loop-t
invariant-loop-t l = (l.t ≤ l.level) × (length l.fc ≡ length l.initial.fc) × (l.fc ≡ times l.t (λ _. swept l.n l.inv_n) l.initial.fc)

abbrev pub decreases-loop-t : goal.decreases-loop-t
decreases-loop-t l = l.level - l.t
