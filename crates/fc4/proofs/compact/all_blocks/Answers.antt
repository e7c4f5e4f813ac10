use Rattle.lists.specs.Tab.{times_none, times_more}
use Rattle.fc4.proofs.compact.all_blocks.Goals as goal

pub loop-b-init : goal.loop-b-init
loop-b-init c = times_none _ _

pub loop-b-preserved : goal.loop-b-preserved
loop-b-preserved c =
    let l = c.loop-b in
    times_more l.b _ _ l.invariant c.visit.ensures
