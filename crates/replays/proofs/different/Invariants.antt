use Rattle.std.proofs.Common.{◌≡◌}
use Rattle.lists.specs.Tab.{times}
use Rattle.replays.specs.Tally.{differing}
use Rattle.replays.proofs.different.Given as goal

abbrev pub invariant-loop-i : goal.invariant-loop-i
invariant-loop-i l = l.d ≡ times l.i (λ i. differing l.r l.got i) 0
