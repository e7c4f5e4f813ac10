use mathlib.Core.Path.{refl, ◌∙◌}
use native.Mathlib.Omega.{arith}
use lib.ListN.{length-set}
use Rattle.rotations.specs.Laws.{row_fits, before_fits, row_more, length-row}
use Rattle.rotations.proofs.widen_row.Goals as goal

pub overflow_mul-from : goal.overflow_mul-from
overflow_mul-from c =
    let k = before_fits c.args.w c.args.q 0 (omega arith) (omega arith) in
    omega arith

pub overflow_mul-row-2 : goal.overflow_mul-row-2
overflow_mul-row-2 c =
    let k = row_fits c.args.w c.args.q 0 (omega arith) (omega arith) in
    omega arith

pub loop-a-init : goal.loop-a-init
loop-a-init c = (omega arith, refl, λ k h. c.requires.by_index k (omega arith))

pub overflow_add-b : goal.overflow_add-b
overflow_add-b c =
    let l = c.loop-a in
    let k = before_fits c.args.w c.args.q l.a (omega arith) (omega arith) in
    omega arith

pub offset_bounds-before-from : goal.offset_bounds-before-from
offset_bounds-before-from c =
    let l = c.loop-a in
    let k = before_fits c.args.w c.args.q l.a (omega arith) (omega arith) in
    omega arith

pub bounds-before-from : goal.bounds-before-from
bounds-before-from c =
    let l = c.loop-a in
    let k = before_fits c.args.w c.args.q l.a (omega arith) (omega arith) in
    omega arith

pub overflow_mul-at : goal.overflow_mul-at
overflow_mul-at c =
    let l = c.loop-a in
    let k = row_fits c.args.w c.args.q l.a (omega arith) (omega arith) in
    omega arith

pub overflow_add-at : goal.overflow_add-at
overflow_add-at c =
    let l = c.loop-a in
    let k = row_fits c.args.w c.args.q l.a (omega arith) (omega arith) in
    omega arith

pub offset_bounds-into-at : goal.offset_bounds-into-at
offset_bounds-into-at c =
    let l = c.loop-a in
    let k = row_fits c.args.w c.args.q l.a (omega arith) (omega arith) in
    omega arith

pub bounds-into-at : goal.bounds-into-at
bounds-into-at c =
    let l = c.loop-a in
    let k = row_fits c.args.w c.args.q l.a (omega arith) (omega arith) in
    omega arith

pub overflow_add-into : goal.overflow_add-into
overflow_add-into c =
    let l = c.loop-a in
    let k = row_fits c.args.w c.args.q l.a (omega arith) (omega arith) in
    omega arith

pub offset_bounds-into-at-in-loop-a : goal.offset_bounds-into-at-in-loop-a
offset_bounds-into-at-in-loop-a c =
    let l = c.loop-a in
    let k = row_fits c.args.w c.args.q l.a (omega arith) (omega arith) in
    omega arith

pub bounds-into-at-in-loop-a : goal.bounds-into-at-in-loop-a
bounds-into-at-in-loop-a c =
    let l = c.loop-a in
    let k = row_fits c.args.w c.args.q l.a (omega arith) (omega arith) in
    simp length-set (omega arith)

pub overflow_add-into-in-loop-a : goal.overflow_add-into-in-loop-a
overflow_add-into-in-loop-a c =
    let l = c.loop-a in
    let k = row_fits c.args.w c.args.q l.a (omega arith) (omega arith) in
    omega arith

pub offset_bounds-into-at-in-loop-a-2 : goal.offset_bounds-into-at-in-loop-a-2
offset_bounds-into-at-in-loop-a-2 c =
    let l = c.loop-a in
    let k = row_fits c.args.w c.args.q l.a (omega arith) (omega arith) in
    omega arith

pub bounds-into-at-in-loop-a-2 : goal.bounds-into-at-in-loop-a-2
bounds-into-at-in-loop-a-2 c =
    let l = c.loop-a in
    let k = row_fits c.args.w c.args.q l.a (omega arith) (omega arith) in
    simp length-set (omega arith)

pub loop-a-preserved : goal.loop-a-preserved
loop-a-preserved c =
    let l = c.loop-a in
    let a = c.args in
    let r = row_more a.w a.before.now a.m.now l.into a.q l.a (omega arith) (omega arith) (l.invariant.1 ∙ c.requires.w_bound.2) l.invariant.2 in
    (omega arith, length-row a.w a.before.now a.m.now l.into a.q l.a ∙ l.invariant.1, r)

pub returns : goal.returns
returns c =
    let l = c.loop-a in
    λ k h. l.invariant.2 k (omega arith)
