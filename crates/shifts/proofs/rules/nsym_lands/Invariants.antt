use mathlib.Core.Bool.{true}
use mathlib.Core.Path.{◌≡◌}
use Prim.Native.Nat.{ℕ, ◌<◌}
use lib.Dec.{eqb}
use Rattle.tables.specs.Compact.{shifts_of, given}
use Rattle.tables.specs.Shifts.{Shifts, row, p2s_at, s2pp_at, nsym_at}
use Rattle.shifts.proofs.rules.nsym_lands.Given as goal

abbrev pub invariant-loop-a : goal.invariant-loop-a
invariant-loop-a l =
    let S : Shifts = shifts_of (given l.tables) in
    (k : ℕ) → k < l.a → eqb (row S (nsym_at S k) k) (p2s_at S (s2pp_at S k)) ≡ true
