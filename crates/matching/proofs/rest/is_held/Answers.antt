use native.Mathlib.Omega.{arith}
use Rattle.matching.specs.Rest.{not_none, not_more, held_at, held_nowhere}
use Rattle.matching.proofs.rest.is_held.Goals as goal

pub loop-j-init : goal.loop-j-init
loop-j-init c = not_none c.args.rot_atom.now c.args.i

pub returns-then-holds_at : goal.returns-then-holds_at
returns-then-holds_at c =
    let a = c.args in
    let l = c.loop-j in
    held_at a.rot_atom.now a.i l.j (omega arith) (c.holds_at.ensures.is_there c.if-holds_at.true)

pub loop-j-preserved : goal.loop-j-preserved
loop-j-preserved c =
    let a = c.args in
    let l = c.loop-j in
    not_more a.rot_atom.now a.i l.j l.invariant (c.holds_at.ensures.is_not c.if-holds_at.false)

pub returns : goal.returns
returns c =
    let a = c.args in
    held_nowhere a.rot_atom.now a.i c.loop-j.j (omega arith) c.loop-j.invariant
