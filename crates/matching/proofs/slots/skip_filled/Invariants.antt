use Rattle.matching.specs.Slots.{FilledBelow}
use Rattle.matching.proofs.slots.skip_filled.Given as goal

abbrev pub invariant-loop-k : goal.invariant-loop-k
invariant-loop-k l = FilledBelow l.rot_atom l.k
