use Rattle.rotations.specs.Laws.{sharing_none, sharing_more, sharing_all}
use native.Mathlib.Omega.{arith}
use borrow.Author.Rules.{rules}
use Rattle.rotations.proofs.share9.Goals as goal

pub loop-p-init : goal.loop-p-init
loop-p-init c = let a = c.args in sharing_none 9 a.s a.c.now a.at a.x (search rules)

pub loop-p-preserved : goal.loop-p-preserved
loop-p-preserved c =
    let l = c.loop-p in
    let a = c.args in
    sharing_more 9 a.s a.c.now a.at a.x l.r l.p (omega arith) l.invariant

pub returns : goal.returns
returns c =
    let l = c.loop-p in
    let a = c.args in
    sharing_all 9 a.s a.c.now a.at a.x l.r l.p (omega arith) l.invariant
