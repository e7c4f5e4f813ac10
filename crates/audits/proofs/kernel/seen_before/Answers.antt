use native.Mathlib.Omega.{arith}
use borrow.Author.Count.{below_none, below_more}
use Rattle.audits.specs.Kernel.{seen_yes, seen_no}
use Rattle.audits.proofs.kernel.seen_before.Goals as goal

pub loop-x-init : goal.loop-x-init
loop-x-init c = below_none _

pub returns-then-x-b : goal.returns-then-x-b
returns-then-x-b c = let a = c.args in seen_yes a.bs.now a.b c.loop-x.x-index c.loop-x-test.true c.if-x-b.true

pub loop-x-preserved : goal.loop-x-preserved
loop-x-preserved c =
    let l = c.loop-x in
    below_more _ l.x-index l.invariant c.if-x-b.false

pub returns : goal.returns
returns c = let a = c.args in let l = c.loop-x in seen_no a.bs.now a.b (λ j h. l.invariant j (omega arith))
