use Prim.Native.Nat.{◌-◌, ◌≤◌}
use mathlib.Core.Path.{◌≡◌}
use lib.ListN.{length}
use Rattle.lists.specs.Tab.{times}
use Rattle.row_sums.specs.RowLaws.{row_at}
use Rattle.row_sums.proofs.sum_rows.Given as goal

abbrev pub invariant-loop-i : goal.invariant-loop-i
invariant-loop-i l = (l.i ≤ l.n) × (length l.sums ≡ length l.initial.sums) × (l.sums ≡ times l.i (row_at l.n l.fc) l.initial.sums)

abbrev pub decreases-loop-i : goal.decreases-loop-i
decreases-loop-i l = l.n - l.i
