use Rattle.distances.proofs.difference.Goals as goal

pub returns-then-repeats : goal.returns-then-repeats
returns-then-repeats c = rw c.if-repeats.true c.wrapped.ensures

pub returns : goal.returns
returns c = rw c.if-repeats.false
