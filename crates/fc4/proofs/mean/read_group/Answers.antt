use native.Mathlib.Omega.{arith}
use mathlib.Core.List.{[]}
use Rattle.lists.specs.Tab.{is_tab}
use Rattle.fc4.specs.Mean.{group_of}
use Rattle.fc4.proofs.mean.read_group.Goals as goal

pub returns : goal.returns
unfolding group_of
returns c =
    let l = c.loop-s in
    is_tab [] 24 _ l.g l.invariant.0 (λ j h. l.invariant.1 j (omega arith))
