use Prim.Native.Nat.{◌-◌, ◌≤◌}
use mathlib.Core.Path.{◌≡◌}
use lib.ListN.{length}
use Rattle.lists.specs.Tab.{times}
use Rattle.places.specs.Places.{perms3, full_shifts}
use Rattle.orbits.specs.Symmetric.{mean6}
use Rattle.acoustic.specs.Acoustic.{leveled}
use Rattle.acoustic.proofs.third_full.full_levels.Given as goal

abbrev pub invariant-loop-t : goal.invariant-loop-t
invariant-loop-t l =
    (l.t ≤ l.level) × (length l.fc3 ≡ length l.initial.fc3) × (length l.drift ≡ length l.initial.drift) × (l.fc3 ≡ times l.t (λ _. leveled mean6 (full_shifts l.n) 2 perms3) l.initial.fc3)

abbrev pub decreases-loop-t : goal.decreases-loop-t
decreases-loop-t l = l.level - l.t
