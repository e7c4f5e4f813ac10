-- `matching::chains::search`, which calls itself: what is left falls at each call. The slots are as they were at the start of each try, and those tried were in vain.
use Rattle.std.proofs.Common.{◌≡◌, length}
use Rattle.distances.specs.Near.{near}
use Rattle.matching.specs.Chains.{Looked}
use Rattle.matching.proofs.chains.+search.Given as goal

abbrev pub decreases-search : goal.decreases-search
decreases-search l = l.left

abbrev pub invariant-loop-j : goal.invariant-loop-j
invariant-loop-j l =
    (l.rot_atom ≡ l.initial.rot_atom) × Looked (near l.cell l.pos l.rot_pos) (length l.initial.rot_atom) l.initial.rot_atom l.initial.marks l.marks l.i l.j
