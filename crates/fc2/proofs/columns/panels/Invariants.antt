use Prim.Native.Nat.{◌*◌, ◌-◌, ◌≤◌}
use Rattle.fc2.specs.Columns.{Columns}
use Rattle.fc2.proofs.columns.panels.Given as goal

abbrev pub invariant-loop-g : goal.invariant-loop-g
invariant-loop-g l = (l.g ≤ l.count) × Columns l.n l.inv_n l.initial.fc (l.g * 8) l.fc

abbrev pub decreases-loop-g : goal.decreases-loop-g
decreases-loop-g l = l.count - l.g
