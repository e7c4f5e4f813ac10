use mathlib.Core.Path.{ap, ap₂, ◌∙◌}
use Rattle.blocks.specs.Block.{put_block}
use Rattle.blocks.specs.Inside.{inside-block}
use Rattle.rotations.specs.Rotation.{rotated}
use Rattle.rotations.specs.Laws.{rotated_by}
use Rattle.deltas.specs.Rows.{with_share, share, spread}
use Rattle.deltas.proofs.fc3s.ThirdShare729.share.Goals as goal

pub read27-requires : goal.read27-requires
read27-requires c = let a = c.args in inside-block a._num_atom 27 a.source _ c.requires.blocks_in.1

pub read81-old-requires : goal.read81-old-requires
read81-old-requires c = let a = c.args in inside-block a._num_atom 81 a.target _ c.requires.blocks_in.0

pub write81-requires : goal.write81-requires
write81-requires c = let a = c.args in inside-block a._num_atom 81 a.target _ c.requires.blocks_in.0

pub returns : goal.returns
unfolding spread share
returns c =
    let a = c.args in
    λ m e. c.write81.ensures
    ∙ ap (λ v. put_block 81 a.target v a.res.now)
    (c.with_share.ensures
    ∙ ap₂ (λ y o. with_share 27 a.u y o)
    (rotated_by m 3 _ e c.rotated27-x.ensures ∙ ap (rotated m 3) c.read27.ensures) c.read81-old.ensures)
