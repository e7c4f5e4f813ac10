use native.Mathlib.Omega.{arith}
use mathlib.Core.Path.{◌≡◌, sym, ap, ◌∙◌}
use lib.Dec.{lit≤}
use lib.ListN.{length}
use Rattle.blocks.specs.Block.{block, length-block}
use Rattle.tables.specs.Limits.{limit4}
use Rattle.tables.specs.Compact.{ShiftTables, shifts_of, given}
use Rattle.audits.specs.FourthScanLaws.{in81}
use Rattle.legs.specs.Laws.{leg_block, block_sums, sums_none, sums-more, length-sums, leg-inside}
use Rattle.legs.proofs.fourth.leg_sums.Goals as goal

pub loop-i-init : goal.loop-i-init
loop-i-init c = sums_none 81 _ _

pub leg_block-at-requires : goal.leg_block-at-requires
leg_block-at-requires c = (c.requires.0.fit, c.requires.1, c.requires.2, c.loop-i-test.true)

pub read81-b-requires : goal.read81-b-requires
read81-b-requires c =
    let a = c.args in
    let T : ShiftTables = given a.tables.now in
    rw c.leg_block-at.ensures (leg-inside limit4 3 _ T c.requires.0 (lit≤ tt) a.leg a.t c.loop-i.i c.requires.2 c.loop-i-test.true 81 in81)

pub slice_bounds-add_all-end : goal.slice_bounds-add_all-end
slice_bounds-add_all-end c =
    let a = c.args in
    let T : ShiftTables = given a.tables.now in
    let l = c.loop-i in
    sym (ap length l.invariant ∙ length-sums 81 (leg_block (shifts_of T) 3 a.leg a.t) l.i a.fc.now)

pub add_all-requires : goal.add_all-requires
add_all-requires c =
    let a = c.args in
    let lb = ap length c.read81-b.ensures ∙ length-block 81 c.leg_block-at.result a.fc.now in
    let ls = ap length c.loop-i.invariant ∙ length-sums 81 _ c.loop-i.i a.fc.now in
    lb ∙ sym ls

pub loop-i-preserved : goal.loop-i-preserved
loop-i-preserved c =
    let a = c.args in
    let T : ShiftTables = given a.tables.now in
    let l = c.loop-i in
    sums-more 81 (leg_block (shifts_of T) 3 a.leg a.t) l.i a.fc.now l.invariant (c.read81-b.ensures ∙ ap (λ b. block 81 b a.fc.now) c.leg_block-at.ensures) c.add_all.ensures

pub returns : goal.returns
returns c =
    let a = c.args in
    let T : ShiftTables = given a.tables.now in
    let l = c.loop-i in
    let i : l.i ≡ a.tables.now.n_satom = omega arith in
    l.invariant ∙ ap (λ k. block_sums 81 (leg_block (shifts_of T) 3 a.leg a.t) k a.fc.now) i
