use Rattle.fc2.specs.FullLoops.{own_at}
use Rattle.fc2.proofs.full.average_own.Goals as goal

pub returns : goal.returns
unfolding own_at
returns c = cc
