use native.Mathlib.Omega.{arith}
use mathlib.Core.Path.{◌≡◌, ◌∙◌}
use Rattle.lists.specs.Tab.{times_none, times_more}
use Rattle.fc4.specs.Mean.{nine_sums}
use Rattle.fc4.proofs.mean.nine_sums.Goals as goal

pub loop-s-init : goal.loop-s-init
loop-s-init c = times_none _ _

pub loop-s-preserved : goal.loop-s-preserved
loop-s-preserved c =
    let l = c.loop-s in
    times_more l.s _ _ l.invariant c.add_nine-more.ensures

pub returns : goal.returns
unfolding nine_sums
returns c =
    let l = c.loop-s in
    let e : l.s ≡ 24 = omega arith in
    l.invariant ∙ rw e
