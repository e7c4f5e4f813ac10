use native.Mathlib.Omega.{arith}
use Rattle.common.specs.Laws.Squares.{square-bound, square_pos}
use Rattle.common.proofs.root.lowered.Goals as goal

pub loop-s-init : goal.loop-s-init
loop-s-init c = c.requires

pub overflow_mul-s : goal.overflow_mul-s
overflow_mul-s c = omega (arith, square-bound c.loop-s.s 28 c.loop-s.invariant)

pub overflow_sub-s : goal.overflow_sub-s
overflow_sub-s c = square_pos _ c.loop-s.s c.loop-s-test.true

pub loop-s-smaller : goal.loop-s-smaller
loop-s-smaller c = omega (arith, square_pos _ c.loop-s.s c.loop-s-test.true)

pub loop-s-preserved : goal.loop-s-preserved
loop-s-preserved c = omega arith

pub returns : goal.returns
returns c = c.loop-s-test.false
