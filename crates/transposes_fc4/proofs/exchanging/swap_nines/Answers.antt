use mathlib.Core.Path.{ap, ap₂, ◌∙◌}
use Rattle.blocks.specs.Block.{put_block}
use Rattle.transposes_fc4.proofs.exchanging.swap_nines.Goals as goal

pub returns : goal.returns
returns c =
    let a = c.args in
    c.write9-2.ensures ∙ ap₂ (put_block 9 a.y) c.read9-one.ensures (c.write9.ensures ∙ ap (λ v. put_block 9 a.x v a.fc4.now) c.read9-other.ensures)
