use native.Mathlib.Omega.{arith}
use Rattle.deltas.specs.Rows.{changed_none, changed_more, axpy-at, is_axpy}
use Rattle.deltas.proofs.rows.axpy.Goals as goal

pub loop-p-init : goal.loop-p-init
loop-p-init g c = let a = c.args in changed_none g.row.W (axpy-at a.u a.x) a.s.now c.requires

pub loop-p-preserved : goal.loop-p-preserved
loop-p-preserved g c =
    let l = c.loop-p in
    let a = c.args in
    changed_more g.row.W (axpy-at a.u a.x) a.s.now l.s l.p (omega arith) l.invariant

pub returns : goal.returns
returns g c =
    let l = c.loop-p in
    let a = c.args in
    is_axpy g.row.W a.u a.x a.s.now l.s l.p (omega arith) l.invariant
