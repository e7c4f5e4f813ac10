use Rattle.reports.proofs.seen.within.Goals as goal

pub returns-then-worst-x : goal.returns-then-worst-x
returns-then-worst-x c = rw c.if-worst-x.true

pub returns-then-x-worst : goal.returns-then-x-worst
returns-then-x-worst c = rw (c.if-worst-x.false, c.if-x-worst.true)

pub returns : goal.returns
returns c = rw (c.if-worst-x.false, c.if-x-worst.false)
