use Rattle.std.proofs.Common.{refl, arith}
use Rattle.replays.specs.Values.{classes}
use Rattle.replays.proofs.values.class.Goals as goal

pub bounds-index_of : goal.bounds-index_of
bounds-index_of c = rw c.index_of.ensures (omega arith)

pub returns : goal.returns
unfolding classes
returns c = rw c.index_of.ensures refl
