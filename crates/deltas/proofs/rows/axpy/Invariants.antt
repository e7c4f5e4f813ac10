use Rattle.deltas.specs.Rows.{Changed, axpy-at}
use Rattle.deltas.proofs.rows.axpy.Given as goal

abbrev pub invariant-loop-p : goal.invariant-loop-p
invariant-loop-p g l = Changed g.row.W (axpy-at l.u l.x) l.initial.s l.s l.p
