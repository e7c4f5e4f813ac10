use Prim.Native.Nat.{◌<◌}
use Rattle.shifts.specs.Loops.{Made, Known}
use Rattle.shifts.proofs.rows.spread.Given as goal

abbrev pub invariant-loop : goal.invariant-loop
invariant-loop l = (l.r < l.tables.num_trans) × Made l.tables.n_satom l.tables.num_trans l.tables.perms.now l.gens l.r × Known l.tables.n_satom l.tables.num_trans l.tables.perms.now l.gens l.known
