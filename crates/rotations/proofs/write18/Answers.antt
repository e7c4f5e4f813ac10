use lib.Dec.{lit<}
use Rattle.blocks.specs.Block.{back_put}
use borrow.Author.Rules.{rules}
use Rattle.rotations.proofs.write18.Goals as goal

pub returns : goal.returns
returns c =
    back_put 18 c.args.b c.args.r.now (lit< tt) c.requires c.copy_all.ensures (search rules)
