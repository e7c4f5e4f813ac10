use lib.Dec.{lit<}
use Rattle.blocks.specs.Block.{back_put}
use borrow.Author.Rules.{rules}
use Rattle.blocks.proofs.write81.Goals as goal

pub returns : goal.returns
returns c =
    back_put 81 c.args.b c.args.fc.now (lit< tt) c.requires c.copy_all.ensures (search rules)
