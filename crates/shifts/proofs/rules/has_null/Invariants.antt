use mathlib.Core.Bool.{false}
use mathlib.Core.Path.{◌≡◌}
use Prim.Native.Nat.{ℕ, ◌<◌}
use Rattle.shifts.specs.Rows.{rows_of}
use Rattle.tables.specs.Shifts.{is_null}
use Rattle.shifts.proofs.rules.has_null.Given as goal

abbrev pub invariant-loop-t : goal.invariant-loop-t
invariant-loop-t l = (k : ℕ) → k < l.t → is_null (rows_of l.tables.n_satom l.tables.num_trans l.tables.perms.now) k ≡ false
