use Rattle.legs.specs.Laws.{Adding}
use Rattle.legs.proofs.add_all.Given as goal

abbrev pub invariant-loop-k : goal.invariant-loop-k
invariant-loop-k l =
    Adding l.initial.s l.b l.k l.s
