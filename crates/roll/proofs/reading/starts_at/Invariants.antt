use mathlib.Core.Path.{◌≡◌}
use mathlib.Core.Bool.{false}
use Prim.Native.Nat.{ℕ, ◌<◌}
use lib.Dec.{eqb}
use Rattle.roll.specs.Reading.{record_start}
use Rattle.roll.proofs.reading.starts_at.Given as goal

abbrev pub invariant-loop : goal.invariant-loop
invariant-loop l = (l.p ≡ record_start l.b l.counter) × ((k : ℕ) → k < l.counter → eqb (record_start l.b k) l.at ≡ false)
