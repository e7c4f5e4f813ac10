use mathlib.Core.Path.{ap, ap₂, ◌∙◌}
use Rattle.blocks.specs.Block.{put_block}
use Rattle.transposes_fc4.proofs.exchanging.swap_blocks.Goals as goal

pub returns : goal.returns
returns c =
    let a = c.args in
    c.write81-2.ensures ∙ ap₂ (put_block 81 a.b) c.read81-one.ensures (c.write81.ensures ∙ ap (λ v. put_block 81 a.a v a.fc4.now) c.read81-other.ensures)
