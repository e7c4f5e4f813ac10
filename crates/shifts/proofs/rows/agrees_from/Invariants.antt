use mathlib.Core.Path.{◌≡◌}
use Prim.Native.Nat.{ℕ, ◌≤◌, ◌<◌}
use Rattle.shifts.specs.Rows.{image}
use Rattle.shifts.proofs.rows.agrees_from.Given as goal

abbrev pub invariant-loop-a : goal.invariant-loop-a
invariant-loop-a l = (k : ℕ) → k < l.a → l.start ≤ k → image l.tables.perms.now l.tables.n_satom l.u (image l.tables.perms.now l.tables.n_satom l.t k) ≡ image l.tables.perms.now l.tables.n_satom l.v k
