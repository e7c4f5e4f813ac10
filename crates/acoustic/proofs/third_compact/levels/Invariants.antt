use Prim.Native.Nat.{◌-◌, ◌≤◌}
use mathlib.Core.Path.{◌≡◌}
use lib.ListN.{length}
use Rattle.lists.specs.Tab.{times}
use Rattle.tables.specs.Compact.{shifts_of, given}
use Rattle.places.specs.Places.{perms3}
use Rattle.orbits.specs.Symmetric.{mean6}
use Rattle.acoustic.specs.Acoustic.{leveled}
use Rattle.acoustic.proofs.third_compact.levels.Given as goal

abbrev pub invariant-loop-t : goal.invariant-loop-t
invariant-loop-t l =
    (l.t ≤ l.level) × (length l.fc3 ≡ length l.initial.fc3) × (length l.done ≡ length l.initial.done) × (length l.drift ≡ length l.initial.drift)
    × (l.fc3 ≡ times l.t (λ _. leveled mean6 (shifts_of (given l.tables)) 2 perms3) l.initial.fc3)

abbrev pub decreases-loop-t : goal.decreases-loop-t
decreases-loop-t l = l.level - l.t
