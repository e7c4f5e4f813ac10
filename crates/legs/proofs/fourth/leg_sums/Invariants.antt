use Prim.Native.Nat.{◌-◌, ◌≤◌}
use mathlib.Core.Path.{◌≡◌}
use Rattle.tables.specs.Compact.{shifts_of, given}
use Rattle.legs.specs.Laws.{leg_block, block_sums}
use Rattle.legs.proofs.fourth.leg_sums.Given as goal

abbrev pub invariant-loop-i : goal.invariant-loop-i
invariant-loop-i l =
    l.sums ≡ block_sums 81 (leg_block (shifts_of (given l.tables)) 3 l.leg l.t) l.i l.fc
