use mathlib.Core.Path.{ap, ap₂, ◌∙◌}
use Rattle.blocks.specs.Block.{put_block}
use Rattle.transposes_fc3.proofs.exchanging.swap_blocks.Goals as goal

pub returns : goal.returns
returns c =
    let a = c.args in
    c.write27-2.ensures ∙ ap₂ (put_block 27 a.b) c.read27-one.ensures (c.write27.ensures ∙ ap (λ v. put_block 27 a.a v a.fc3.now) c.read27-other.ensures)
