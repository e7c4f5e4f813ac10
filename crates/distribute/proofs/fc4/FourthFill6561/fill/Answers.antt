use mathlib.Core.Path.{ap, ◌∙◌}
use Rattle.blocks.specs.Block.{put_block}
use Rattle.blocks.specs.Inside.{inside-block}
use Rattle.rotations.specs.Rotation.{rotated}
use Rattle.rotations.specs.Laws.{rotated_by}
use Rattle.distribute.specs.Slab.{move, move_block}
use Rattle.distribute.proofs.fc4.FourthFill6561.fill.Goals as goal

pub read81-requires : goal.read81-requires
read81-requires c = let a = c.args in inside-block a._num_atom 81 a.source _ c.requires.blocks_in.1

pub write81-requires : goal.write81-requires
write81-requires c = let a = c.args in inside-block a._num_atom 81 a.target _ c.requires.blocks_in.0

pub returns : goal.returns
unfolding move move_block
returns c =
    let a = c.args in
    λ m e. c.write81.ensures
    ∙ ap (λ v. put_block 81 a.target v a.fc.now)
    (rotated_by m 4 _ e c.rotated81-r.ensures ∙ ap (rotated m 4) c.read81.ensures)
