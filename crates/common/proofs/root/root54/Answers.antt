use native.Mathlib.Omega.{arith}
use Rattle.common.proofs.Halves as H
use Rattle.common.proofs.root.root54.Goals as goal

pub overflow_mul-t : goal.overflow_mul-t
overflow_mul-t c = omega (arith, H.square_le c.args.n c.root27-s.result c.requires.fact_1 c.requires.fact_2 c.root27-s.ensures.0 c.root27-s.ensures.1)

pub returns-then-u-t : goal.returns-then-u-t
returns-then-u-t c = H.one_less c.args.n c.root27-s.result c.requires.fact_1 c.requires.fact_2 c.root27-s.ensures.0 c.root27-s.ensures.1 c.if-u-t.true
