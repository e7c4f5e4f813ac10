use lib.Ieee.{mul, binary64}
use Rattle.acoustic.specs.Laws.{Mapping}
use Rattle.acoustic.proofs.scale_all.Given as goal

abbrev pub invariant-loop-k : goal.invariant-loop-k
invariant-loop-k l = Mapping (λ _ y. mul binary64 y l.x) l.initial.s l.k l.s
