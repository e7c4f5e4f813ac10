use Prim.Native.Nat.{ℕ, ◌<◌}
use mathlib.Core.Path.{◌≡◌}
use lib.ListN.{length, get_or}
use Rattle.blocks.specs.Permuted.{permuted}
use Rattle.positions.specs.Positions.{permutation_at}
use Rattle.transposes_fc4.specs.Rows.{first_pairs}
use Rattle.transposes_fc4.proofs.legs.pairs_by.Given as goal

abbrev pub invariant-loop-n : goal.invariant-loop-n
invariant-loop-n l =
    (length l.m ≡ 54) × ((j : ℕ) → j < l.n → get_or l.m j 0 ≡ permuted 3 (permutation_at l.s) (get_or first_pairs j 0))
