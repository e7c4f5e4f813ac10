use native.Mathlib.Omega.{arith}
use mathlib.Core.Path.{◌≡◌, refl, ap, ◌∙◌}
use Rattle.lists.specs.Tab.{times_none, times_more}
use Rattle.blocks.specs.Block.{put_block}
use Rattle.fc4.specs.Mean.{nine_sums, divided, means_to, means_are, is_group_lem}
use Rattle.fc4.proofs.mean.group_means.Goals as goal

pub loop-h-init : goal.loop-h-init
loop-h-init c = (refl, times_none _ _)

pub nine_sums-requires : goal.nine_sums-requires
nine_sums-requires c =
    (rw c.read_group-g.ensures (is_group_lem c.args.fc4.now c.args.bs.now), c.requires.1, omega arith)

pub loop-h-preserved : goal.loop-h-preserved
loop-h-preserved c =
    let l = c.loop-h in
    let w = c.write9 in
    let d = c.divided-nine in
    let n = c.nine_sums in
    let g = c.read_group-g in (
      w.auto.fc ∙ l.invariant.0,
      times_more l.h _ _ l.invariant.1 (w.ensures ∙ ap (λ m. put_block 9 l.h m l.v) (d.ensures ∙ ap divided (n.ensures ∙ ap (λ g. nine_sums g l.h) g.ensures))),
    )

pub returns : goal.returns
unfolding means_to
returns c =
    let l = c.loop-h in
    let e : l.h ≡ 9 = omega arith in
    (rw e at l.invariant.1) ∙ means_are c.args.fc4.now c.args.bs.now c.requires.0.count
