use native.Mathlib.Omega.{arith}
use mathlib.Core.Path.{◌≡◌, ◌∙◌}
use Rattle.lists.specs.Tab.{times_none, times_more}
use Rattle.drift.specs.Loops.{look_line}
use Rattle.drift.proofs.seen.look_line.Goals as goal

pub loop-p-init : goal.loop-p-init
loop-p-init c = (omega arith, times_none _ _)

pub offset_bounds-s-row_of : goal.offset_bounds-s-row_of
offset_bounds-s-row_of c = let e = c.row_of.ensures in omega arith

pub offset_bounds-s-column_of : goal.offset_bounds-s-column_of
offset_bounds-s-column_of c = let e = c.column_of.ensures in omega arith

pub bounds-s-row_of : goal.bounds-s-row_of
bounds-s-row_of c = let e = c.row_of.ensures in omega arith

pub bounds-s-column_of : goal.bounds-s-column_of
bounds-s-column_of c = let e = c.column_of.ensures in omega arith

pub index_of-requires : goal.index_of-requires
index_of-requires c = omega (arith, c.requires)

pub loop-p-preserved : goal.loop-p-preserved
loop-p-preserved c =
    let l = c.loop-p in
    (omega arith, times_more l.p _ _ l.invariant.1 (rw (c.index_of.ensures, c.column_of.ensures, c.row_of.ensures) at c.look-more.ensures))

pub returns : goal.returns
unfolding look_line
returns c =
    let l = c.loop-p in
    let i : l.p ≡ 9 = omega arith in
    l.invariant.1 ∙ rw i
