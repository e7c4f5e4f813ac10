use native.Mathlib.Omega.{arith}
use Rattle.common.specs.Laws.Fields.{no_nan_bits}
use Rattle.common.proofs.Wholes.{no_nan}
use Rattle.common.proofs.root.guess.Goals as goal

pub float_from_bits-v : goal.float_from_bits-v
float_from_bits-v c = no_nan_bits c.args.b (omega arith)

pub float_from_bits-y0 : goal.float_from_bits-y0
float_from_bits-y0 c = no_nan_bits _ (omega arith)

pub float_to_bits-c : goal.float_to_bits-c
float_to_bits-c c = no_nan _ c.if-g.false
