use borrow.Author.Tests.{lt-ltb, le-ltb}
use Rattle.lists.specs.Lowest.{lowest}
use Rattle.explain.proofs.first_above.Goals as goal

pub returns-then-tables-gt-LIMIT2 : goal.returns-then-tables-gt-LIMIT2
unfolding lowest
returns-then-tables-gt-LIMIT2 c = simp (lt-ltb _ _ c.if-tables-gt-LIMIT2.true)

pub returns-then-tables-gt-LIMIT2-2 : goal.returns-then-tables-gt-LIMIT2-2
unfolding lowest
returns-then-tables-gt-LIMIT2-2 c = simp (le-ltb _ _ c.if-tables-gt-LIMIT2.false, lt-ltb _ _ c.if-tables-gt-LIMIT2-2.true)

pub returns-then-tables-gt-LIMIT2-3 : goal.returns-then-tables-gt-LIMIT2-3
unfolding lowest
returns-then-tables-gt-LIMIT2-3 c = simp (le-ltb _ _ c.if-tables-gt-LIMIT2.false, le-ltb _ _ c.if-tables-gt-LIMIT2-2.false, lt-ltb _ _ c.if-tables-gt-LIMIT2-3.true)

pub returns : goal.returns
unfolding lowest
returns c = simp (le-ltb _ _ c.if-tables-gt-LIMIT2.false, le-ltb _ _ c.if-tables-gt-LIMIT2-2.false, le-ltb _ _ c.if-tables-gt-LIMIT2-3.false)
