use mathlib.Core.Path.{◌∙◌}
use Rattle.blocks.specs.Block.{part-block}
use Rattle.blocks.proofs.read9.Goals as goal

pub returns : goal.returns
returns c =
    c.copy_all.ensures ∙ part-block 9 c.args.b c.args.fc.now c.requires
