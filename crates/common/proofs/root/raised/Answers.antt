use native.Mathlib.Omega.{arith}
use Rattle.common.specs.Laws.Squares.{self_le_square}
use Rattle.common.proofs.root.raised.Goals as goal

pub loop-s-init : goal.loop-s-init
loop-s-init c = c.requires.fact_2

pub overflow_mul-s : goal.overflow_mul-s
overflow_mul-s c = omega (arith, self_le_square c.loop-s.s)

pub overflow_mul-s-in-loop-s : goal.overflow_mul-s-in-loop-s
overflow_mul-s-in-loop-s c = omega arith

pub overflow_sub-n : goal.overflow_sub-n
overflow_sub-n c = c.loop-s.invariant

pub overflow_add-s : goal.overflow_add-s
overflow_add-s c = omega (arith, self_le_square c.loop-s.s)

pub loop-s-smaller : goal.loop-s-smaller
loop-s-smaller c = omega arith

pub loop-s-preserved : goal.loop-s-preserved
loop-s-preserved c = omega arith

pub returns : goal.returns
returns c = omega arith
