use Rattle.matching.specs.Rest.{NotBelow}
use Rattle.matching.proofs.rest.is_held.Given as goal

abbrev pub invariant-loop-j : goal.invariant-loop-j
invariant-loop-j l = NotBelow l.rot_atom l.i l.j
