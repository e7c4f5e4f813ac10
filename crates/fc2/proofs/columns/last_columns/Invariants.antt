use mathlib.Core.Path.{◌≡◌}
use mathlib.Core.List.{List}
use Prim.Native.Nat.{◌-◌, ◌≤◌}
use lib.ListN.{length}
use lib.Ieee.{Float}
use Rattle.fc2.specs.Columns.{Columns}
use Rattle.fc2.proofs.columns.last_columns.Given as goal

abbrev pub invariant-loop-j : goal.invariant-loop-j
invariant-loop-j l = (l.j ≤ l.n) × (length l.fc ≡ length l.initial.fc) × ((xs : List Float) → Columns l.n l.inv_n xs l.from l.initial.fc → Columns l.n l.inv_n xs l.j l.fc)

abbrev pub decreases-loop-j : goal.decreases-loop-j
decreases-loop-j l = l.n - l.j
