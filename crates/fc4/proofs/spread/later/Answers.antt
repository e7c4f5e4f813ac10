use native.Mathlib.Omega.{arith}
use Rattle.lists.specs.Tab.{is_tab}
use Rattle.fc4.specs.Spread.{later_of}
use Rattle.fc4.proofs.spread.later.Goals as goal

pub returns : goal.returns
unfolding later_of
returns c =
    let l = c.loop-k in
    is_tab 0 81 _ l.r l.invariant.0 (λ j h. l.invariant.1 j (omega arith))
