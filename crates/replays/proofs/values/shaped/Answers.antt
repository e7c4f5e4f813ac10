use Rattle.std.proofs.Common.{refl}
use Rattle.replays.specs.Values.{kept_bits, set_bits}
use Rattle.replays.proofs.values.shaped.Goals as goal

pub returns : goal.returns
unfolding kept_bits set_bits
returns c = refl
