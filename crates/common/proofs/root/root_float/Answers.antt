use native.Mathlib.Omega.{arith}
use Rattle.common.specs.Laws.Fields.{no_nan_bits}
use Rattle.common.proofs.Rounding.{rad_lt, r_le, root_pattern}
use Rattle.common.proofs.root.root_float.Goals as goal

pub root54-r-requires-clause-fact_2 : goal.root54-r-requires-clause-fact_2
root54-r-requires-clause-fact_2 c = rad_lt c.args.q c.args.g c.requires.fact_1 c.requires.fact_2

pub float_from_bits-result : goal.float_from_bits-result
float_from_bits-result c =
    no_nan_bits _ (omega (arith, r_le c.args.q c.args.g c.requires.fact_1 c.requires.fact_2 c.root54-r.result c.root54-r.ensures, c.requires.fact_3))

pub returns : goal.returns
returns c = root_pattern c.args.q c.args.g c.requires.fact_1 c.requires.fact_2 c.root54-r.result c.root54-r.ensures c.requires.fact_3
