use lib.ListN.{length}
use Rattle.distances.specs.Near.{near}
use Rattle.matching.specs.Rest.{PlacedBelow}
use Rattle.matching.proofs.rest.place_rest.Given as goal

abbrev pub invariant-loop-i : goal.invariant-loop-i
invariant-loop-i l = PlacedBelow (near l.cell l.pos l.rot_pos) (length l.initial.rot_atom) l.initial.rot_atom l.i l.rot_atom
