use mathlib.Core.Path.{◌≡◌}
use lib.ListN.{length, take}
use Rattle.standing.specs.RetireAll.{inserted}
use Rattle.standing.specs.PlacingLaws.{under_way}
use Rattle.standing.proofs.retire.place.Given as goal

abbrev pub invariant-loop-i : goal.invariant-loop-i
invariant-loop-i l = (length l.list ≡ length l.initial.list) × (under_way l.list l.m l.i l.on ≡ inserted l.y (take l.m l.initial.list))
