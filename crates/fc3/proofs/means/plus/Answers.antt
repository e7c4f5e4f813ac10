use native.Mathlib.Omega.{arith}
use lib.Ieee.{nan}
use Rattle.lists.specs.Tab.{is_tab}
use Rattle.fc3.specs.Mean.{plus27}
use Rattle.fc3.proofs.means.plus.Goals as goal

pub returns : goal.returns
unfolding plus27
returns c =
    let l = c.loop-k in
    is_tab nan 27 _ l.r l.invariant.0 (λ j h. l.invariant.1 j (omega arith))
