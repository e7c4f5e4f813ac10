use mathlib.Core.Path.{◌≡◌}
use Prim.Native.Nat.{ℕ, ◌<◌}
use mathlib.Core.Bool.{false}
use Rattle.tables.specs.Shifts.{Shifts, is_null}
use Rattle.tables.specs.Compact.{shifts_of, given}
use Rattle.explain.proofs.rules.has_null.Given as goal

abbrev pub invariant-loop-t : goal.invariant-loop-t
invariant-loop-t l =
    let S : Shifts = shifts_of (given l.tables) in
    (k : ℕ) → k < l.t → is_null S k ≡ false
