use mathlib.Core.Path.{◌≡◌}
use mathlib.Core.List.{[], ◌∷◌}
use Rattle.lists.specs.Tab.{times}
use Rattle.fc3.specs.Spread.{line_at}
use Rattle.fc3.specs.Coinciding.{Six, flat}
use Rattle.fc3.proofs.spots.put_plane.Given as goal

abbrev pub invariant-loop-m : goal.invariant-loop-m
invariant-loop-m at =
    Six at.group × (flat at.group ≡ times at.m (λ m. line_at (at.s0 ∷ at.s1 ∷ at.s2 ∷ at.s3 ∷ at.s4 ∷ at.s5 ∷ []) at.v at.l m) (flat at.initial.group))
