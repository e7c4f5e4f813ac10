use Rattle.std.proofs.Common.{rules}
use Rattle.replays.specs.Words.{end_within}
use Rattle.replays.proofs.steps.ends.Goals as goal

pub returns : goal.returns
unfolding end_within
returns c = search rules
