use mathlib.Core.Path.{◌≡◌}
use Prim.Native.Nat.{ℕ, ◌<◌}
use lib.ListN.{length}
use Rattle.shifts.specs.Loops.{Made, Known}
use Rattle.shifts.proofs.rows.learn_all.Given as goal

abbrev pub invariant-loop-u : goal.invariant-loop-u
invariant-loop-u l = (length l.gens ≡ 1024) × ((k : ℕ) → k < l.u → Made l.tables.n_satom l.tables.num_trans l.tables.perms.now l.gens k) × Known l.tables.n_satom l.tables.num_trans l.tables.perms.now l.gens l.known
