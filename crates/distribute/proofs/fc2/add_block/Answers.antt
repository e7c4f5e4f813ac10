use mathlib.Core.Path.{ap, ap₂, ◌∙◌}
use Rattle.blocks.specs.Block.{put_block}
use Rattle.lines.specs.Sums3x3.{added}
use Rattle.rotations.specs.Rotation.{rotated}
use Rattle.rotations.specs.Laws.{rotated_by}
use Rattle.distribute.specs.Fc2.{add_block}
use Rattle.distribute.proofs.fc2.add_block.Goals as goal

pub returns : goal.returns
unfolding add_block
returns c =
    let a = c.args in
    λ m e. c.write9.ensures
    ∙ ap (λ v. put_block 9 a.target v a.fc2.now)
    (c.added.ensures
    ∙ ap₂ added c.read9-old.ensures
    (rotated_by m 2 _ e c.rotated9-a.ensures ∙ ap (rotated m 2) c.read9.ensures))
