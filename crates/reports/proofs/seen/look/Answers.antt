use Rattle.reports.specs.Seen.{look-raised, look-kept}
use Rattle.reports.proofs.seen.look.Goals as goal

pub returns-then-c : goal.returns-then-c
returns-then-c c = simp (c.if-x.true, c.if-c.true)

pub returns-then-x : goal.returns-then-x
returns-then-x c = simp (c.if-x.true, c.if-c.false)

pub returns-then-c-m : goal.returns-then-c-m
returns-then-c-m c =
    look-raised c.args.r c.args.x c.args.c c.magnitude-m.result c.magnitude-m.ensures c.if-x.false c.if-c-m.true

pub returns : goal.returns
returns c =
    look-kept c.args.r c.args.x c.args.c c.magnitude-m.result c.magnitude-m.ensures c.if-x.false c.if-c-m.false
