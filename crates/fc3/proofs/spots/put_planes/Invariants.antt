use mathlib.Core.Path.{◌≡◌}
use mathlib.Core.List.{[], ◌∷◌}
use Rattle.lists.specs.Tab.{times}
use Rattle.fc3.specs.Spread.{plane_at}
use Rattle.fc3.specs.Coinciding.{Six, flat}
use Rattle.fc3.proofs.spots.put_planes.Given as goal

abbrev pub invariant-loop-l : goal.invariant-loop-l
invariant-loop-l at =
    Six at.group × (flat at.group ≡ times at.l (λ l. plane_at (at.s0 ∷ at.s1 ∷ at.s2 ∷ at.s3 ∷ at.s4 ∷ at.s5 ∷ []) at.v l) (flat at.initial.group))
