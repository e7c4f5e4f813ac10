use Rattle.shifts.specs.Placing.{Placed}
use Rattle.shifts.proofs.rules.place_all.Given as goal

abbrev pub invariant-loop-p : goal.invariant-loop-p
invariant-loop-p l = Placed l.tables.n_satom l.tables.num_trans l.p l.tables.perms.now l.tables.p2s.now l.tables.s2pp.now l.sent
