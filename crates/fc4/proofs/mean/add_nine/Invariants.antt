use Prim.Native.Nat.{ℕ, ◌+◌, ◌*◌, ◌<◌}
use mathlib.Core.Path.{◌≡◌}
use mathlib.Core.List.{[]}
use lib.ListN.{length, get_or}
use lib.Ieee.{nan, binary64, add}
use Rattle.blocks.specs.Permuted.{permuted}
use Rattle.positions.specs.Positions.{permutation_at}
use Rattle.fc4.proofs.mean.add_nine.Given as goal

abbrev pub invariant-loop-k : goal.invariant-loop-k
invariant-loop-k l =
    (length l.r ≡ 9) × ((j : ℕ) → j < l.k → get_or l.r j nan ≡ add binary64 (get_or l.sums j nan) (get_or (get_or l.g l.s []) (permuted 3 (permutation_at l.s) (l.h * 9 + j)) nan))
