use native.Mathlib.Omega.{arith}
use mathlib.Core.Path.{◌≡◌, ◌∙◌}
use mathlib.Core.List.{[], ◌∷◌}
use Rattle.lists.specs.Tab.{times, times_none, times_more}
use Rattle.fc3.specs.Spread.{plane_at, planes_are}
use Rattle.fc3.specs.Coinciding.{flat}
use Rattle.fc3.proofs.spots.put_planes.Goals as goal

pub loop-l-init : goal.loop-l-init
loop-l-init c = (c.requires.0, times_none _ _)

pub loop-l-preserved : goal.loop-l-preserved
loop-l-preserved c =
    let l = c.loop-l in
    (c.put_plane.ensures.0, times_more l.l _ _ l.invariant.1 c.put_plane.ensures.1)

pub returns : goal.returns
returns c =
    let l = c.loop-l in
    let e : l.l ≡ 3 = omega arith in
    let a = c.args in
    let bs = a.s0 ∷ a.s1 ∷ a.s2 ∷ a.s3 ∷ a.s4 ∷ a.s5 ∷ [] in
    let f : flat l.group ≡ times 3 (λ l. plane_at bs a.v l) (flat a.group.now) = l.invariant.1 ∙ rw e in
    (l.invariant.0, f ∙ planes_are bs a.v (flat a.group.now))
