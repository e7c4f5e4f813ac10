use mathlib.Core.Path.{◌≡◌}
use Prim.Native.Nat.{ℕ, ◌<◌}
use mathlib.Core.Bool.{true}
use lib.Dec.{eqb}
use Rattle.tables.specs.Shifts.{Shifts, row}
use Rattle.tables.specs.Compact.{shifts_of, given}
use Rattle.explain.proofs.rules.is_null.Given as goal

abbrev pub invariant-loop-a : goal.invariant-loop-a
invariant-loop-a l =
    let S : Shifts = shifts_of (given l.tables) in
    (k : ℕ) → k < l.a → eqb (row S l.t k) k ≡ true
