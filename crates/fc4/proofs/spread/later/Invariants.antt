use Prim.Native.Nat.{ℕ, ◌<◌, max}
use mathlib.Core.Path.{◌≡◌}
use lib.ListN.{length, get_or}
use Rattle.blocks.specs.Permuted.{permuted}
use Rattle.positions.specs.Positions.{permutation_at}
use Rattle.fc4.proofs.spread.later.Given as goal

abbrev pub invariant-loop-k : goal.invariant-loop-k
invariant-loop-k l =
    (length l.r ≡ 81) × ((j : ℕ) → j < l.k → get_or l.r j 0 ≡ max (get_or l.m j 0) (permuted 3 (permutation_at l.s) j))
