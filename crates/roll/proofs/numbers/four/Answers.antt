use Rattle.std.proofs.Common.{arith}
use Rattle.roll.specs.Reading.{four_at}
use Rattle.roll.proofs.numbers.four.Goals as goal

pub returns : goal.returns
unfolding four_at
returns c = (omega arith, c.from_le_bytes.type_inv)
