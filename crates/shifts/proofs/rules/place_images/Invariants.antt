use Rattle.shifts.specs.Placing.{Placing}
use Rattle.shifts.proofs.rules.place_images.Given as goal

abbrev pub invariant-loop-t : goal.invariant-loop-t
invariant-loop-t l = Placing l.tables.n_satom l.t l.a.0 l.p.0 l.tables.perms.now l.tables.s2pp.now l.initial.sent l.sent
