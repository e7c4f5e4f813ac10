use Prim.Native.Nat.{◌+◌, ◌<◌}
use native.Mathlib.Omega.{arith}
use mathlib.Core.Path.{◌≡◌, refl, sym, ap, ◌∙◌}
use lib.ListN.{get_or, length-set}
use lib.Ieee.{nan}
use Rattle.lists.specs.Tab.{times_none, times_more, fill_more}
use Rattle.blocks.specs.Block.{put_block}
use Rattle.fc4.specs.Spread.{sources_below, made_of, is_made, passed_over, put_blocks, blocks_are}
use Rattle.fc4.proofs.spread.put_blocks.Goals as goal

pub loop-s-init : goal.loop-s-init
loop-s-init c = (omega arith, times_none _ _)

-- the source of a place is a position of the block
pub bounds-v-q : goal.bounds-v-q
bounds-v-q c =
    let g : get_or c.sources-m.result c.loop-k.k 0 < 81 = rw c.sources-m.ensures (sources_below c.args.bs.now (get_or c.args.bs.now c.loop-s.s 0) c.loop-k.k (omega (arith, c.loop-k-test.true))) in
    omega arith

pub loop-k-preserved : goal.loop-k-preserved
loop-k-preserved c =
    let l = c.loop-k in
    (simp length-set l.invariant.0, fill_more nan _ l.block l.k _ (omega arith) refl l.invariant.1)

-- the block that was made, written, and the blocks that were passed over, which it leaves as they are
pub loop-s-preserved : goal.loop-s-preserved
loop-s-preserved c =
    let l = c.loop-s in
    let p = c.loop-k in
    let t = c.loop-k-test in
    let w = c.write81 in
    let n = c.next_block-s.ensures in
    let b = get_or c.args.bs.now l.s 0 in
    let made : p.block ≡ made_of c.args.bs.now c.args.v b =
    is_made c.args.bs.now c.args.v b c.sources-m.result p.block c.sources-m.ensures p.invariant.0 (λ j h. p.invariant.1 j (omega arith)) in (
      n.to,
      times_more l.s _ _ l.invariant.1 (w.ensures ∙ ap (λ y. put_block 81 b y l.fc4) made)
          ∙ sym (passed_over c.args.bs.now c.args.v c.args.fc4.now (l.s + 1) c.next_block-s.result n.from n.passed),
    )

pub returns : goal.returns
unfolding put_blocks
returns c =
    let l = c.loop-s in
    let e : l.s ≡ 24 = omega arith in
    (rw e at l.invariant.1) ∙ blocks_are c.args.bs.now c.args.v c.args.fc4.now c.requires.0.count
