use Rattle.fc3.specs.Loops.{worked_clear}
use Rattle.fc3.proofs.compact.symmetrize.Goals as goal

pub slabs-requires : goal.slabs-requires
slabs-requires c = rw c.clear.auto.w c.requires

pub returns : goal.returns
returns c =
    worked_clear _ c.args.fc3.now c.args.done.now c.requires c.clear.ensures c.slabs.ensures c.clear-2.ensures c.slabs.auto.done
