use Rattle.std.proofs.Common.{get_or, eq-eqb, ne_eqb}
use Rattle.roll.specs.Reading.{entry_at}
use Rattle.standing.proofs.retires_at.Goals as goal

pub returns-then-b-at : goal.returns-then-b-at
unfolding entry_at
returns-then-b-at c = let a = c.args in simp (eq-eqb (get_or a.b.now a.at 0) 3 c.if-b-at.true, c.set_at.ensures.0)

pub returns-else-b-at : goal.returns-else-b-at
unfolding entry_at
returns-else-b-at c = let a = c.args in simp (ne_eqb (get_or a.b.now a.at 0) 3 c.if-b-at.false)
