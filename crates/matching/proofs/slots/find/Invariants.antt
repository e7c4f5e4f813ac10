use mathlib.Core.Bool.{false}
use Rattle.matching.specs.Matching.{takes, no_number_at}
use Rattle.distances.specs.Near.{near, distance}
use Rattle.matching.specs.Search.{First}
use mathlib.Core.Path.{◌≡◌}
use lib.ListN.{length}
use Prim.Native.Nat.{ℕ, ◌<◌}
use Rattle.matching.proofs.slots.find.Given as goal

abbrev pub invariant-loop-j : goal.invariant-loop-j
invariant-loop-j l =
    ((k : ℕ) → k < l.j → takes (near l.cell l.pos l.rot_pos) l.rot_atom l.i k ≡ false) × First (no_number_at (distance l.cell l.pos l.rot_pos) l.rot_atom l.i) (length l.rot_atom) l.j l.none
