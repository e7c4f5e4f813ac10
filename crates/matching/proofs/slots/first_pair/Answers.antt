use borrow.Author.Tests.{lt-ltb, le-ltb}
use Rattle.matching.proofs.slots.first_pair.Goals as goal

pub returns-then-p-n : goal.returns-then-p-n
returns-then-p-n c = simp (lt-ltb _ _ c.if-p-n.true)

pub returns-then-s-n : goal.returns-then-s-n
returns-then-s-n c = simp (le-ltb _ _ c.if-p-n.false, lt-ltb _ _ c.if-s-n.true)

pub returns : goal.returns
returns c = simp (le-ltb _ _ c.if-p-n.false, le-ltb _ _ c.if-s-n.false)
