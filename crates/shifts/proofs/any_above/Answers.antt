use borrow.Author.Tests.{lt-ltb, le-ltb}
use Rattle.lists.specs.Tests.{or-none}
use Rattle.shifts.proofs.any_above.Goals as goal

pub returns-then-tables-limit : goal.returns-then-tables-limit
returns-then-tables-limit c = simp (lt-ltb _ _ c.if-tables-limit.true)

pub returns-then-tables-limit-2 : goal.returns-then-tables-limit-2
returns-then-tables-limit-2 c = simp (le-ltb _ _ c.if-tables-limit.false, lt-ltb _ _ c.if-tables-limit-2.true)

pub returns : goal.returns
returns c = simp (le-ltb _ _ c.if-tables-limit.false, le-ltb _ _ c.if-tables-limit-2.false, or-none)
