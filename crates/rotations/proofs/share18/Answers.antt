use Rattle.rotations.specs.Laws.{sharing_none, sharing_more, sharing_all}
use native.Mathlib.Omega.{arith}
use borrow.Author.Rules.{rules}
use Rattle.rotations.proofs.share18.Goals as goal

pub loop-p-init : goal.loop-p-init
loop-p-init c = let a = c.args in sharing_none 18 a.s a.c.now a.at a.x (search rules)

pub loop-p-preserved : goal.loop-p-preserved
loop-p-preserved c =
    let l = c.loop-p in
    let a = c.args in
    sharing_more 18 a.s a.c.now a.at a.x l.r l.p (omega arith) l.invariant

pub returns : goal.returns
returns c =
    let l = c.loop-p in
    let a = c.args in
    sharing_all 18 a.s a.c.now a.at a.x l.r l.p (omega arith) l.invariant
