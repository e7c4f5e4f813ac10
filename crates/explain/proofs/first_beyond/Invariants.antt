use mathlib.Core.Path.{◌≡◌}
use Prim.Native.Nat.{ℕ, ◌<◌}
use mathlib.Core.Bool.{false, not}
use lib.IntN.{pos}
use lib.ListN.{get_or}
use Rattle.tables.specs.Conditions.{below}
use Rattle.explain.proofs.first_beyond.Given as goal

abbrev pub invariant-loop-k : goal.invariant-loop-k
invariant-loop-k l = (j : ℕ) → j < l.k → not (below l.n (get_or l.t j (pos 0))) ≡ false
