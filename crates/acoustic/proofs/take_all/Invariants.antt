use lib.ListN.{get_or}
use lib.Ieee.{nan, sub, binary64}
use Rattle.acoustic.specs.Laws.{Mapping}
use Rattle.acoustic.proofs.take_all.Given as goal

abbrev pub invariant-loop-k : goal.invariant-loop-k
invariant-loop-k l = Mapping (λ j y. sub binary64 y (get_or l.d j nan)) l.initial.s l.k l.s
