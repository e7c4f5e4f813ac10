use Rattle.distances.proofs.everywhere.Goals as goal

pub returns-then-periodic-2 : goal.returns-then-periodic-2
returns-then-periodic-2 c = rw (c.if-periodic.true, c.if-periodic-2.true)

pub returns-then-periodic : goal.returns-then-periodic
returns-then-periodic c = rw (c.if-periodic.true, c.if-periodic-2.false)

pub returns : goal.returns
returns c = rw c.if-periodic.false
