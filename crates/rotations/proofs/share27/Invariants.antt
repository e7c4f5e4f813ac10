use Rattle.rotations.specs.Laws.{Sharing}
use Prim.Native.Nat.{◌-◌}
use Rattle.rotations.proofs.share27.Given as goal

abbrev pub invariant-loop-p : goal.invariant-loop-p
invariant-loop-p l = Sharing 27 l.initial.r l.c l.at l.x l.r l.p

abbrev pub decreases-loop-p : goal.decreases-loop-p
decreases-loop-p l = 27 - l.p
