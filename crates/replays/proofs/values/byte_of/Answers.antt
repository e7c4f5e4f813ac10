use Rattle.std.proofs.Common.{rules}
use Rattle.replays.specs.Values.{byte_of}
use Rattle.replays.proofs.values.byte_of.Goals as goal

pub returns : goal.returns
unfolding byte_of
returns c = search rules
