use Rattle.lists.specs.Tab.{times_none, times_more}
use Rattle.fc2_compact.proofs.compact.levels.Goals as goal

pub loop-init : goal.loop-init
loop-init c = times_none _ _

pub loop-preserved : goal.loop-preserved
loop-preserved c =
    let l = c.loop in
    times_more l.counter _ _ l.invariant c.level_pass.ensures
