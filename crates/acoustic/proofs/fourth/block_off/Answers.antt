use mathlib.Core.Path.{ap, ap₂, sym, ◌∙◌}
use lib.ListN.{length}
use Rattle.blocks.specs.Block.{put_block, length-block}
use Rattle.acoustic.specs.Laws.{less}
use Rattle.acoustic.proofs.fourth.block_off.Goals as goal

pub take_all-requires : goal.take_all-requires
take_all-requires c =
    let a = c.args in
    ap length c.read81-d.ensures ∙ length-block 81 a.r a.drift.now ∙ sym (ap length c.read81-v.ensures ∙ length-block 81 a.b a.fc4.now)

pub returns : goal.returns
returns c =
    let a = c.args in
    c.write81.ensures ∙ ap (λ v. put_block 81 a.b v a.fc4.now) (c.take_all.ensures ∙ ap₂ less c.read81-v.ensures c.read81-d.ensures)
