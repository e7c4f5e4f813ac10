use mathlib.Core.Path.{ap, ap₂, ◌∙◌}
use Rattle.blocks.specs.Block.{put_block}
use Rattle.blocks.specs.Inside.{inside-block}
use Rattle.rotations.specs.Rotation.{rotated}
use Rattle.rotations.specs.Laws.{rotated_by}
use Rattle.deltas.specs.Rows.{with_share, share, spread}
use Rattle.deltas.proofs.fc2s.SecondShare81.share.Goals as goal

pub read9-requires : goal.read9-requires
read9-requires c = let a = c.args in inside-block a._num_atom 9 a.source _ c.requires.blocks_in.1

pub read27-old-requires : goal.read27-old-requires
read27-old-requires c = let a = c.args in inside-block a._num_atom 27 a.target _ c.requires.blocks_in.0

pub write27-requires : goal.write27-requires
write27-requires c = let a = c.args in inside-block a._num_atom 27 a.target _ c.requires.blocks_in.0

pub returns : goal.returns
unfolding spread share
returns c =
    let a = c.args in
    λ m e. c.write27.ensures
    ∙ ap (λ v. put_block 27 a.target v a.res.now)
    (c.with_share.ensures
    ∙ ap₂ (λ y o. with_share 9 a.u y o)
    (rotated_by m 2 _ e c.rotated9-x.ensures ∙ ap (rotated m 2) c.read9.ensures) c.read27-old.ensures)
