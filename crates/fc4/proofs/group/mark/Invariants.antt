use mathlib.Core.Path.{◌≡◌}
use lib.ListN.{get_or, set}
use Rattle.lists.specs.Tab.{times}
use Rattle.fc4.proofs.group.mark.Given as goal

abbrev pub invariant-loop-b : goal.invariant-loop-b
invariant-loop-b v =
    v.done ≡ times v.b-index (λ s l. set l (get_or v.bs s 0) 1) v.initial.done
