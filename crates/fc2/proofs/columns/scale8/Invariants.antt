use Prim.Native.Nat.{ℕ, ◌-◌, ◌≤◌, ◌<◌}
use mathlib.Core.Path.{◌≡◌}
use lib.ListN.{length, get_or}
use mathlib.Core.List.{[]}
use Rattle.lines.specs.Sums3x3.{scaled}
use Rattle.fc2.proofs.columns.scale8.Given as goal

abbrev pub invariant-loop-c : goal.invariant-loop-c
invariant-loop-c l = (l.c ≤ 8) × (length l.r ≡ 8) × ((k : ℕ) → k < l.c → get_or l.r k [] ≡ scaled (get_or l.s k []) l.x)

abbrev pub decreases-loop-c : goal.decreases-loop-c
decreases-loop-c l = 8 - l.c
