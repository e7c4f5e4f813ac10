use Rattle.matching.proofs.Signs.{sign_read}
use Rattle.matching.proofs.slots.is_filled.Goals as goal

pub returns : goal.returns
returns c = sign_read c.args.slot c.ranges.slot
