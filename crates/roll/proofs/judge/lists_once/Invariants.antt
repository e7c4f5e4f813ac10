use mathlib.Core.Path.{◌≡◌}
use mathlib.Core.Bool.{true}
use Prim.Native.Nat.{ℕ, ◌<◌}
use Rattle.roll.specs.Reading.{listed_once}
use Rattle.roll.specs.StartLaws.{Open}
use Rattle.roll.proofs.judge.lists_once.Given as goal

abbrev pub invariant-loop-i : goal.invariant-loop-i
invariant-loop-i l = Open l.b l.i l.marks × ((k : ℕ) → k < l.i → listed_once l.b k ≡ true)
