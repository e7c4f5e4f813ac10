use Prim.Native.Nat.{◌-◌, ◌≤◌}
use mathlib.Core.Path.{◌≡◌}
use lib.ListN.{length}
use Rattle.lists.specs.Tab.{times}
use Rattle.tables.specs.Compact.{shifts_of, given}
use Rattle.acoustic.specs.Acoustic.{without_drift}
use Rattle.acoustic.proofs.fourth.legs_off.Given as goal

abbrev pub invariant-loop-leg : goal.invariant-loop-leg
invariant-loop-leg l =
    (l.leg ≤ 4) × (length l.fc4 ≡ length l.initial.fc4) × (length l.drift ≡ length l.initial.drift) × (l.fc4 ≡ times l.leg (without_drift (shifts_of (given l.tables)) 3) l.initial.fc4)

abbrev pub decreases-loop-leg : goal.decreases-loop-leg
decreases-loop-leg l = 4 - l.leg
