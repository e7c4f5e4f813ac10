use mathlib.Core.Path.{◌≡◌}
use mathlib.Core.Bool.{true}
use Prim.Native.Nat.{ℕ, ◌<◌}
use Rattle.roll.specs.Reading.{record_start}
use Rattle.standing.specs.Register.{allowed}
use Rattle.standing.specs.Walk.{record_of, register_after}
use Rattle.standing.proofs.is_lawful.Given as goal

abbrev pub invariant-loop-i : goal.invariant-loop-i
invariant-loop-i l = (l.p ≡ record_start l.b l.i) × ((k : ℕ) → k < l.i → allowed (register_after (record_of l.b) k) (record_of l.b k) ≡ true)
