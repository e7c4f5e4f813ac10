use Prim.Native.Nat.{◌<◌}
use native.Mathlib.Omega.{arith}
use mathlib.Core.Path.{◌≡◌, ap, ◌∙◌}
use Rattle.lists.specs.Tab.{times, times_none, times_more}
use Rattle.fc3.specs.FullLoops.{slab_of, slabs_of, slab_lines, slabs_leave}
use Rattle.fc3.proofs.full.symmetrize.Goals as goal

pub loop-a-init : goal.loop-a-init
loop-a-init c = times_none _ _

pub loop-a-preserved : goal.loop-a-preserved
loop-a-preserved c =
    let l = c.loop-a in
    let a = c.args in
    let h : l.a < a.num_atom = omega arith in
    times_more l.a (slab_of a.num_atom) _ l.invariant (c.lines.ensures ∙ slab_lines a.num_atom l.a h l.fc3)

pub returns : goal.returns
unfolding slabs_of
returns c =
    let l = c.loop-a in
    let e : l.a ≡ c.args.num_atom = omega arith in
    l.invariant ∙ ap (λ k. times k (slab_of c.args.num_atom) c.args.fc3.now) e ∙ slabs_leave c.args.num_atom c.args.fc3.now c.requires.set-length
