use borrow.Author.Tests.{lt-ltb, le-ltb}
use Rattle.drift.proofs.atom_of.Goals as goal

pub returns-then-q-n : goal.returns-then-q-n
returns-then-q-n c = simp (lt-ltb _ _ c.if-q-n.true)

pub returns : goal.returns
returns c = simp (le-ltb _ _ c.if-q-n.false)
