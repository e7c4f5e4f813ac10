use Prim.Native.Nat.{◌+◌}
use mathlib.Core.Path.{◌≡◌}
use lib.ListN.{get_or}
use lib.Ieee.{nan}
use Rattle.lists.specs.Tab.{times}
use Rattle.reports.specs.Loops.{look}
use Rattle.reports.proofs.seen.look_numbers.Given as goal

abbrev pub invariant-loop-k : goal.invariant-loop-k
invariant-loop-k l = l.seen ≡ times l.k (λ j. look (l.first + j) (get_or l.x j nan)) l.initial.seen
