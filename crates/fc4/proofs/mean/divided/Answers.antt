use native.Mathlib.Omega.{arith}
use lib.Ieee.{nan}
use Rattle.lists.specs.Tab.{is_tab}
use Rattle.fc4.specs.Mean.{divided}
use Rattle.fc4.proofs.mean.divided.Goals as goal

pub returns : goal.returns
unfolding divided
returns c =
    let l = c.loop-k in
    is_tab nan 9 _ l.r l.invariant.0 (λ j h. l.invariant.1 j (omega arith))
