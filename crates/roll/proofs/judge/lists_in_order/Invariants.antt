use mathlib.Core.Path.{◌≡◌}
use mathlib.Core.Bool.{true}
use Prim.Native.Nat.{ℕ, ◌≤◌, ◌<◌}
use lib.Dec.{eqb}
use Rattle.roll.specs.Reading.{record_start, ruled_at, listed}
use Rattle.roll.proofs.judge.lists_in_order.Given as goal

abbrev pub invariant-loop-i : goal.invariant-loop-i
invariant-loop-i l = (l.p ≡ record_start l.b l.i) × (l.p ≤ l.t) × ((k : ℕ) → k < l.i → ruled_at l.b (record_start l.b k) ≡ true) × ((k : ℕ) → k < l.i → eqb (listed l.b k) (record_start l.b k) ≡ true)
