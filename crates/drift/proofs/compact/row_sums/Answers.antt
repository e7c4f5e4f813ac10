use native.Mathlib.Omega.{arith}
use mathlib.Core.Path.{◌≡◌, ap, ◌∙◌}
use Rattle.lists.specs.Tab.{times_none, times_more}
use Rattle.blocks.specs.Block.{block}
use Rattle.lines.specs.Sums3x3.{more}
use Rattle.drift.specs.CompactLaws.{compact_row_sums}
use Rattle.drift.proofs.compact.row_sums.Goals as goal

pub loop-j-init : goal.loop-j-init
loop-j-init c = (omega arith, times_none _ _)

pub stored_block2-at-requires : goal.stored_block2-at-requires
stored_block2-at-requires c = (c.requires.0.tables, c.requires.1, c.loop-j-test.true)

pub read9-b-requires : goal.read9-b-requires
read9-b-requires c =
    rw c.stored_block2-at.ensures (c.requires.0.inside c.args.i c.loop-j.j c.requires.1 c.loop-j-test.true)

pub loop-j-preserved : goal.loop-j-preserved
loop-j-preserved c =
    let l = c.loop-j in
    let a = c.args in
    (omega arith, times_more l.j _ _ l.invariant.1 (c.more-next.ensures ∙ ap (more l.sums) (c.read9-b.ensures ∙ ap (λ b. block 9 b a.fc.now) c.stored_block2-at.ensures)))

pub returns : goal.returns
unfolding compact_row_sums
returns c =
    let l = c.loop-j in
    let i : l.j ≡ c.args.tables.now.n_satom = omega arith in
    l.invariant.1 ∙ rw i
