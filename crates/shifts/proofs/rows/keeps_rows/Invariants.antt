use Prim.Native.Nat.{ℕ, ◌<◌}
use Rattle.shifts.specs.Loops.{KeepsAt}
use Rattle.shifts.proofs.rows.keeps_rows.Given as goal

abbrev pub invariant-loop-a : goal.invariant-loop-a
invariant-loop-a l = (k : ℕ) → k < l.a → KeepsAt l.tables.n_satom l.tables.perms.now l.tables.p2s.now l.tables.s2pp.now l.sent l.g k
