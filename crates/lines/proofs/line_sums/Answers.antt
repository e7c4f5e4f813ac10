use Rattle.lines.specs.Lines.{line_sums, step_is, step_fits}
use Rattle.lines.specs.Sums3x3.{more}
use Rattle.blocks.specs.Block.{block}
use Rattle.lists.specs.Tab.{times_none, times_more}
use mathlib.Core.Path.{◌≡◌, ap, ◌∙◌}
use native.Mathlib.Omega.{arith}
use Rattle.lines.proofs.line_sums.Goals as goal

pub loop-k-init : goal.loop-k-init
loop-k-init c = times_none _ _

pub index_of-requires : goal.index_of-requires
index_of-requires c = omega (arith, c.requires.within c.loop-k.k c.loop-k-test.true)

pub read9-b-requires : goal.read9-b-requires
read9-b-requires c =
    step_fits c.requires c.loop-k.k c.loop-k-test.true c.index_of.ensures

pub loop-k-preserved : goal.loop-k-preserved
loop-k-preserved c =
    let l = c.loop-k in
    let a = c.args in
    let e = step_is c.requires l.k c.loop-k-test.true c.index_of.ensures in
    times_more l.k _ _ l.invariant (c.more-next.ensures ∙ ap (more l.sums) (c.read9-b.ensures ∙ ap (λ b. block 9 b a.fc.now) e))

pub returns : goal.returns
unfolding line_sums
returns c =
    let l = c.loop-k in
    let i : l.k ≡ c.args.count = omega arith in
    l.invariant ∙ rw i
