use Rattle.lists.specs.Lowest.{Lowest}
use Rattle.audits.specs.Kernel.{position_to}
use Rattle.audits.proofs.kernel.first_position.Given as goal

abbrev pub invariant-loop-i : goal.invariant-loop-i
invariant-loop-i l = Lowest l.width (position_to l.width l.bs l.t l.fc l.b l.i) l.until
