use mathlib.Core.Bool.{true}
use mathlib.Core.Path.{◌≡◌}
use Prim.Native.Nat.{ℕ, ◌*◌, ◌<◌}
use lib.ListN.{get_or}
use Rattle.tables.specs.Conditions.{below}
use lib.IntN.{pos}
use Rattle.tables.proofs.index.fours_below.Given as goal

abbrev pub invariant-loop-f : goal.invariant-loop-f
invariant-loop-f l = (k : ℕ) → k < l.f * 4 → below l.n (get_or l.t k (pos 0)) ≡ true
