use Prim.Native.Nat.{◌+◌, ◌*◌}
use mathlib.Core.Path.{◌≡◌}
use mathlib.Core.List.{[], ◌∷◌}
use lib.ListN.{get_or}
use lib.Ieee.{nan}
use Rattle.lists.specs.Tab.{times}
use Rattle.places.specs.Permutations.{perms3}
use Rattle.orbits.specs.Groups.{spots}
use Rattle.orbits.specs.Spread.{set_all}
use Rattle.fc3.specs.Coinciding.{Six, flat}
use Rattle.fc3.proofs.spots.put_line.Given as goal

abbrev pub invariant-loop-n : goal.invariant-loop-n
invariant-loop-n at =
    Six at.group × (flat at.group ≡ times at.n (λ n. set_all (spots 2 perms3 (at.s0 ∷ at.s1 ∷ at.s2 ∷ at.s3 ∷ at.s4 ∷ at.s5 ∷ []) ((at.l * 3 + at.m) * 3 + n)) (get_or at.v ((at.l * 3 + at.m) * 3 + n) nan)) (flat at.initial.group))
