use native.Mathlib.Omega.{arith}
use mathlib.Core.Path.{◌≡◌, ◌∙◌}
use Rattle.lists.specs.Tab.{times_none, times_more}
use Rattle.differences.specs.Laws.{look_block}
use Rattle.differences.proofs.look_block.Goals as goal

pub loop-k-init : goal.loop-k-init
loop-k-init c = times_none _ _

pub look_place-seen-requires : goal.look_place-seen-requires
look_place-seen-requires c = (c.requires.0, c.loop-k-test.true, c.requires.1)

pub loop-k-preserved : goal.loop-k-preserved
loop-k-preserved c = let l = c.loop-k in times_more l.k _ _ l.invariant c.look_place-seen.ensures

pub returns : goal.returns
unfolding look_block
returns c =
    let l = c.loop-k in
    let i : l.k ≡ c.args.width = omega arith in
    l.invariant ∙ rw i
