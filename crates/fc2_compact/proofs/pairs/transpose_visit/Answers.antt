use mathlib.Core.Logic.{inl, inr}
use borrow.Author.Tests.{not-true, not-false}
use Rattle.fc2_compact.specs.Code.{s2pp-read, facts, visit_in, transpose_earlier, transpose_late, transpose_none, transpose_done}
use Rattle.fc2_compact.proofs.pairs.transpose_visit.Goals.{then-c-b-2+else-j-i, else-c-b-2}
use Rattle.fc2_compact.proofs.pairs.transpose_visit.Goals as goal

pub s2pp_at-requires : goal.s2pp_at-requires
s2pp_at-requires c = s2pp-read _ c.args.fc.now _ _ _ c.requires

pub returns-then-s2pp_at-p : goal.returns-then-s2pp_at-p
returns-then-s2pp_at-p c =
    transpose_earlier _ c.args.fc.now _ _ _ c.requires _ c.s2pp_at.ensures c.if-s2pp_at-p.true c.args.half_shifts_stay

pub block2-b-requires : goal.block2-b-requires
block2-b-requires c = let r = c.requires in ((facts r).few, (facts r).first_small, r.second)

pub stored_block2-c-requires : goal.stored_block2-c-requires
stored_block2-c-requires c = let r = c.requires in ((facts r).tables-fit, r.second, (facts r).own_below)

pub returns-then-c-b : goal.returns-then-c-b
returns-then-c-b c =
    transpose_late _ c.args.fc.now _ _ _ c.requires _ _ c.block2-b.ensures c.stored_block2-c.ensures c.args.half_shifts_stay c.if-c-b.true

pub swap_blocks-requires : goal.swap_blocks-requires
swap_blocks-requires c =
    visit_in _ c.args.fc.now _ _ _ c.requires _ _ c.block2-b.ensures c.stored_block2-c.ensures

pub returns-then-not-half_shifts_stay : goal.returns-then-not-half_shifts_stay
returns-then-not-half_shifts_stay c =
    transpose_done _ c.args.fc.now _ _ _ c.requires _ _ c.block2-b.ensures c.stored_block2-c.ensures c.args.half_shifts_stay c.if-c-b.false (inl (not-true c.args.half_shifts_stay c.if-not-half_shifts_stay.true-raw)) c.swap_blocks.ensures

pub returns-then-j-i : goal.returns-then-j-i
returns-then-j-i c =
    transpose_none _ c.args.fc.now _ _ _ c.requires _ _ c.block2-b.ensures c.stored_block2-c.ensures c.args.half_shifts_stay (not-false c.args.half_shifts_stay c.if-not-half_shifts_stay.false-raw) c.if-c-b-2.true c.if-j-i.true

pub swap_blocks-requires-2 : goal.swap_blocks-requires-2
swap_blocks-requires-2 c =
    visit_in _ c.args.fc.now _ _ _ c.requires _ _ c.block2-b.ensures c.stored_block2-c.ensures

pub returns : goal.returns
returns c =
    transpose_done _ c.args.fc.now _ _ _ c.requires _ _ c.block2-b.ensures c.stored_block2-c.ensures c.args.half_shifts_stay c.if-c-b.false
    (inr (elim c.if-c-b-2.branch [ then-c-b-2+else-j-i w ↦ inr w.if-j-i.false | else-c-b-2 w ↦ inl w.if-c-b-2.false ]))
    c.swap_blocks-2.ensures
