use native.Mathlib.Omega.{arith}
use mathlib.Core.Path.{◌≡◌, ◌∙◌}
use Rattle.lists.specs.Tab.{times_none, times_more}
use Rattle.fc3.specs.Spread.{plane_at}
use Rattle.fc3.proofs.spots.put_plane.Goals as goal

pub loop-m-init : goal.loop-m-init
loop-m-init c = (c.requires.0, times_none _ _)

pub loop-m-preserved : goal.loop-m-preserved
loop-m-preserved c =
    let l = c.loop-m in
    (c.put_line.ensures.0, times_more l.m _ _ l.invariant.1 c.put_line.ensures.1)

pub returns : goal.returns
unfolding plane_at
returns c =
    let l = c.loop-m in
    let e : l.m ≡ 3 = omega arith in
    (l.invariant.0, l.invariant.1 ∙ rw e)
