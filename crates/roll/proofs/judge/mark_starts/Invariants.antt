use mathlib.Core.Path.{◌≡◌}
use mathlib.Core.Bool.{true}
use Prim.Native.Nat.{ℕ, ◌≤◌, ◌<◌}
use Rattle.roll.specs.Reading.{record_start, ruled_at}
use Rattle.roll.specs.Roll.{Marked}
use Rattle.roll.proofs.judge.mark_starts.Given as goal

abbrev pub invariant-loop : goal.invariant-loop
invariant-loop l = (l.at ≡ record_start l.b l.counter) × (l.at ≤ l.t) × Marked l.b l.counter l.marks × ((k : ℕ) → k < l.counter → ruled_at l.b (record_start l.b k) ≡ true)
