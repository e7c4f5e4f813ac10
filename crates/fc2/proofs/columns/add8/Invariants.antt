use Prim.Native.Nat.{ℕ, ◌+◌, ◌-◌, ◌≤◌, ◌<◌}
use mathlib.Core.Path.{◌≡◌}
use lib.ListN.{length, get_or}
use mathlib.Core.List.{[]}
use Rattle.blocks.specs.Block.{block}
use Rattle.lines.specs.Sums3x3.{more}
use Rattle.fc2.proofs.columns.add8.Given as goal

abbrev pub invariant-loop-c : goal.invariant-loop-c
invariant-loop-c l = (l.c ≤ 8) × (length l.r ≡ 8) × ((k : ℕ) → k < l.c → get_or l.r k [] ≡ more (get_or l.s k []) (block 9 (l.b + k) l.fc))

abbrev pub decreases-loop-c : goal.decreases-loop-c
decreases-loop-c l = 8 - l.c
