use mathlib.Core.Path.{◌≡◌}
use Prim.Native.Nat.{ℕ, ◌*◌, ◌<◌}
use Rattle.shifts.specs.Rows.{image}
use Rattle.shifts.proofs.rows.is_after.Given as goal

abbrev pub invariant-loop-f : goal.invariant-loop-f
invariant-loop-f l = (k : ℕ) → k < l.f * 4 → image l.tables.perms.now l.tables.n_satom l.u (image l.tables.perms.now l.tables.n_satom l.t k) ≡ image l.tables.perms.now l.tables.n_satom l.v k
