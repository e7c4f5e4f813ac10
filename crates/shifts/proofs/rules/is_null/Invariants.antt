use mathlib.Core.Bool.{true}
use mathlib.Core.Path.{◌≡◌}
use Prim.Native.Nat.{ℕ, ◌<◌}
use lib.Dec.{eqb}
use Rattle.shifts.specs.Rows.{rows_of}
use Rattle.tables.specs.Shifts.{row}
use Rattle.shifts.proofs.rules.is_null.Given as goal

abbrev pub invariant-loop-a : goal.invariant-loop-a
invariant-loop-a l = (k : ℕ) → k < l.a → eqb (row (rows_of l.tables.n_satom l.tables.num_trans l.tables.perms.now) l.t k) k ≡ true
