use mathlib.Core.Path.{◌≡◌}
use mathlib.Core.Bool.{true}
use Prim.Native.Nat.{ℕ, ◌≤◌, ◌<◌}
use lib.ListN.{get_or}
use lib.IntN.{pos}
use Rattle.tables.specs.Conditions.{below}
use Rattle.tables.proofs.index.rest_below.Given as goal

abbrev pub invariant-loop-i : goal.invariant-loop-i
invariant-loop-i l = (k : ℕ) → k < l.i → l.start ≤ k → below l.n (get_or l.t k (pos 0)) ≡ true
