use native.Mathlib.Omega.{arith}
use mathlib.Core.Path.{◌≡◌, refl, ◌∙◌}
use Rattle.lists.specs.Tab.{times_none, times_more}
use Rattle.fc4.specs.Loops.{stored-marks}
use Rattle.fc4.proofs.group.mark.Goals as goal

pub loop-b-init : goal.loop-b-init
loop-b-init c = times_none _ _

pub loop-b-preserved : goal.loop-b-preserved
loop-b-preserved c =
    let l = c.loop-b in
    times_more l.b-index _ _ l.invariant refl

pub returns : goal.returns
returns c =
    let l = c.loop-b in
    let e : l.b-index ≡ 24 = omega arith in
    (rw e at l.invariant) ∙ stored-marks c.args.bs.now c.args.done.now c.requires.count
