use Rattle.std.specs.Prelude.{length}
use Rattle.lists.specs.Clear.{Cleared}
use Rattle.lists.proofs.clear.Given as goal

abbrev pub invariant-loop-i : goal.invariant-loop-i
invariant-loop-i g l = Cleared l.zero (length l.initial.w) l.i l.w
