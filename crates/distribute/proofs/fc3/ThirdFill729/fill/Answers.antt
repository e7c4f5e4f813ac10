use mathlib.Core.Path.{ap, ◌∙◌}
use Rattle.blocks.specs.Block.{put_block}
use Rattle.blocks.specs.Inside.{inside-block}
use Rattle.rotations.specs.Rotation.{rotated}
use Rattle.rotations.specs.Laws.{rotated_by}
use Rattle.distribute.specs.Slab.{move, move_block}
use Rattle.distribute.proofs.fc3.ThirdFill729.fill.Goals as goal

pub read27-requires : goal.read27-requires
read27-requires c = let a = c.args in inside-block a._num_atom 27 a.source _ c.requires.blocks_in.1

pub write27-requires : goal.write27-requires
write27-requires c = let a = c.args in inside-block a._num_atom 27 a.target _ c.requires.blocks_in.0

pub returns : goal.returns
unfolding move move_block
returns c =
    let a = c.args in
    λ m e. c.write27.ensures
    ∙ ap (λ v. put_block 27 a.target v a.fc.now)
    (rotated_by m 3 _ e c.rotated27-r.ensures ∙ ap (rotated m 3) c.read27.ensures)
