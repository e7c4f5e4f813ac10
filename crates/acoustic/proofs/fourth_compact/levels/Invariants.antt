use Prim.Native.Nat.{◌-◌, ◌≤◌}
use mathlib.Core.Path.{◌≡◌}
use lib.ListN.{length}
use Rattle.lists.specs.Tab.{times}
use Rattle.tables.specs.Compact.{shifts_of, given}
use Rattle.places.specs.Places.{perms4}
use Rattle.fc4.specs.Mean24.{mean24}
use Rattle.acoustic.specs.Acoustic.{leveled}
use Rattle.acoustic.proofs.fourth_compact.levels.Given as goal

abbrev pub invariant-loop-t : goal.invariant-loop-t
invariant-loop-t l =
    (l.t ≤ l.level) × (length l.fc4 ≡ length l.initial.fc4) × (length l.done ≡ length l.initial.done) × (length l.drift ≡ length l.initial.drift)
    × (l.fc4 ≡ times l.t (λ _. leveled mean24 (shifts_of (given l.tables)) 3 perms4) l.initial.fc4)

abbrev pub decreases-loop-t : goal.decreases-loop-t
decreases-loop-t l = l.level - l.t
