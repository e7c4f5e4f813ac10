use borrow.Author.Tests.{lt-ltb, le-ltb}
use Rattle.matching.proofs.slots.earlier.Goals as goal

pub returns-then-none-n : goal.returns-then-none-n
returns-then-none-n c = simp (lt-ltb _ _ c.if-none-n.true)

pub returns : goal.returns
returns c = simp (le-ltb _ _ c.if-none-n.false)
