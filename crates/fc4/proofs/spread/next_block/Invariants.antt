use Rattle.fc4.specs.Spread.{NextBlock}
use Rattle.fc4.proofs.spread.next_block.Given as goal

abbrev pub invariant-loop-n : goal.invariant-loop-n
invariant-loop-n l = NextBlock l.bs l.s l.n
