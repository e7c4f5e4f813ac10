use mathlib.Core.Path.{◌≡◌}
use Prim.Native.Nat.{ℕ, ◌<◌}
use mathlib.Core.Bool.{false}
use Rattle.tables.specs.Shifts.{Shifts, is_after}
use Rattle.tables.specs.Compact.{shifts_of, given}
use Rattle.explain.proofs.rules.has_after.Given as goal

abbrev pub invariant-loop-v : goal.invariant-loop-v
invariant-loop-v l =
    let S : Shifts = shifts_of (given l.tables) in
    (k : ℕ) → k < l.v → is_after S l.t l.u k ≡ false
