use Prim.Native.Nat.{◌+◌}
use mathlib.Core.Path.{◌≡◌}
use lib.ListN.{get_or}
use lib.Ieee.{nan, sub, binary64}
use Rattle.lists.specs.Tab.{times}
use Rattle.reports.specs.Loops.{look}
use Rattle.reports.proofs.seen.look_differences.Given as goal

abbrev pub invariant-loop-k : goal.invariant-loop-k
invariant-loop-k l = l.seen ≡ times l.k (λ j. look (l.first + j) (sub binary64 (get_or l.x j nan) (get_or l.y j nan))) l.initial.seen
