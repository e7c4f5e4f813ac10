use mathlib.Core.Path.{ap, ◌∙◌}
use Rattle.blocks.specs.Block.{put_block}
use Rattle.blocks.specs.Block9.{transposed9}
use Rattle.transposes_fc3.proofs.exchanging.transpose_nine.Goals as goal

pub returns : goal.returns
returns c =
    let a = c.args in
    c.write9.ensures ∙ ap (λ v. put_block 9 a.g v a.fc3.now) (c.transposed9.ensures ∙ ap transposed9 c.read9-v.ensures)
