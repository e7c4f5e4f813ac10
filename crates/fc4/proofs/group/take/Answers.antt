use mathlib.Core.Path.{ap₂}
use Rattle.fc4.specs.Loops.{taken_blocks}
use Rattle.fc4.proofs.group.take.Goals as goal

pub mark-requires : goal.mark-requires
mark-requires c = c.requires.1

pub returns : goal.returns
unfolding taken_blocks
returns c =
    ap₂ (λ x y. (x, y)) c.work_group.ensures c.mark.ensures
