use Prim.Native.Nat.{◌+◌, ◌*◌}
use mathlib.Core.Path.{◌≡◌}
use lib.ListN.{length, get_or}
use lib.Ieee.{nan, sub, binary64}
use Rattle.lists.specs.Tab.{times}
use Rattle.audits.specs.Kernel.{there}
use Rattle.reports.specs.Loops.{look}
use Rattle.differences.proofs.look_place.Given as goal

abbrev pub invariant-loop-i : goal.invariant-loop-i
invariant-loop-i l =
    l.seen ≡ times l.i (λ j. look ((l.b * l.width + l.k) * length l.bs + j) (sub binary64 (there l.width l.bs l.t l.fc j l.k) (get_or l.fc (l.b * l.width + l.k) nan))) l.initial.seen
