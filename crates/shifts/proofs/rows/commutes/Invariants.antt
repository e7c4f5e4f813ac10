use mathlib.Core.Path.{◌≡◌}
use Prim.Native.Nat.{ℕ, ◌<◌}
use lib.ListN.{get_or}
use Rattle.shifts.specs.Rows.{image}
use Rattle.shifts.proofs.rows.commutes.Given as goal

abbrev pub invariant-loop-a : goal.invariant-loop-a
invariant-loop-a l = (k : ℕ) → k < l.a → image l.tables.perms.now l.tables.n_satom l.g (get_or l.right k 0) ≡ get_or l.right (image l.tables.perms.now l.tables.n_satom l.g k) 0
