use Rattle.matching.specs.Slots.{FilledBelow}
use Rattle.matching.specs.Matching.{match_one}
use Rattle.distances.specs.Near.{near, distance}
use Rattle.matching.specs.Search.{pair_after}
use Rattle.lists.specs.Tab.{times}
use mathlib.Core.Path.{◌≡◌}
use Rattle.matching.proofs.slots.place_all.Given as goal

abbrev pub invariant-loop-i : goal.invariant-loop-i
invariant-loop-i l =
    FilledBelow l.rot_atom l.start × (l.rot_atom ≡ times l.i (match_one (near l.cell l.pos l.rot_pos)) l.initial.rot_atom) × (l.first ≡ pair_after (distance l.cell l.pos l.rot_pos) l.initial.rot_atom l.i)
