use Rattle.transposes_fc4.specs.Pairs.{from_pairs, Permuted}
use Rattle.transposes_fc4.proofs.exchanging.permute_pairs.Given as goal

abbrev pub invariant-loop-n : goal.invariant-loop-n
invariant-loop-n l = Permuted (from_pairs l.m l.n) l.b l.initial.fc4 l.fc4
