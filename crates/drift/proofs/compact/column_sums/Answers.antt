use native.Mathlib.Omega.{arith}
use mathlib.Core.Path.{◌≡◌, ap, ◌∙◌}
use Rattle.lists.specs.Tab.{times_none, times_more}
use Rattle.blocks.specs.Block.{block}
use Rattle.lines.specs.Sums3x3.{more}
use Rattle.drift.specs.CompactLaws.{column_sums}
use Rattle.drift.proofs.compact.column_sums.Goals as goal

pub loop-i-init : goal.loop-i-init
loop-i-init c = (omega arith, times_none _ _)

pub stored_block2-at-requires : goal.stored_block2-at-requires
stored_block2-at-requires c = (c.requires.0.tables, c.loop-i-test.true, c.requires.1)

pub read9-b-requires : goal.read9-b-requires
read9-b-requires c =
    rw c.stored_block2-at.ensures (c.requires.0.inside c.loop-i.i c.args.j c.loop-i-test.true c.requires.1)

pub loop-i-preserved : goal.loop-i-preserved
loop-i-preserved c =
    let l = c.loop-i in
    let a = c.args in
    (omega arith, times_more l.i _ _ l.invariant.1 (c.more-next.ensures ∙ ap (more l.sums) (c.read9-b.ensures ∙ ap (λ b. block 9 b a.fc.now) c.stored_block2-at.ensures)))

pub returns : goal.returns
unfolding column_sums
returns c =
    let l = c.loop-i in
    let i : l.i ≡ c.args.tables.now.n_satom = omega arith in
    l.invariant.1 ∙ rw i
