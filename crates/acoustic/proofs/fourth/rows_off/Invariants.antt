use Prim.Native.Nat.{◌-◌, ◌≤◌}
use mathlib.Core.Path.{◌≡◌}
use lib.ListN.{length}
use Rattle.lists.specs.Tab.{times}
use Rattle.tables.specs.Compact.{shifts_of, given}
use Rattle.acoustic.specs.Laws.{row_less}
use Rattle.acoustic.proofs.fourth.rows_off.Given as goal

abbrev pub invariant-loop-row : goal.invariant-loop-row
invariant-loop-row l =
    (l.row ≤ l.count) × (length l.fc4 ≡ length l.initial.fc4) × (l.fc4 ≡ times l.row (row_less (shifts_of (given l.tables)) 3 l.leg 81 l.drift) l.initial.fc4)

abbrev pub decreases-loop-row : goal.decreases-loop-row
decreases-loop-row l = l.count - l.row
