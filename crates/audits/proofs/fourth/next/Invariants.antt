use Rattle.audits.specs.Later.{Next}
use Rattle.audits.proofs.fourth.next.Given as goal

abbrev pub invariant-loop-r : goal.invariant-loop-r
invariant-loop-r l = Next l.n l.b l.count l.r
