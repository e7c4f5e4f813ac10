use mathlib.Core.Path.{◌∙◌}
use Rattle.blocks.specs.Block.{part-block}
use Rattle.blocks.proofs.sized.read.Goals as goal

pub returns : goal.returns
returns g c =
    c.copy_all.ensures ∙ part-block g.row.N c.args.b c.args.fc.now c.requires
