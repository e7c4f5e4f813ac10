use mathlib.Core.Path.{ap, ap₂, sym, ◌∙◌}
use lib.ListN.{length}
use Rattle.blocks.specs.Block.{put_block, length-block}
use Rattle.acoustic.specs.Laws.{less}
use Rattle.acoustic.proofs.third.block_off.Goals as goal

pub take_all-requires : goal.take_all-requires
take_all-requires c =
    let a = c.args in
    ap length c.read27-d.ensures ∙ length-block 27 a.r a.drift.now ∙ sym (ap length c.read27-v.ensures ∙ length-block 27 a.b a.fc3.now)

pub returns : goal.returns
returns c =
    let a = c.args in
    c.write27.ensures
    ∙ ap (λ v. put_block 27 a.b v a.fc3.now) (c.take_all.ensures ∙ ap₂ less c.read27-v.ensures c.read27-d.ensures)
