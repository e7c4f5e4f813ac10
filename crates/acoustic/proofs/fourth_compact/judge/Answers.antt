use borrow.Author.Tests.{lt-ltb, le-ltb}
use Rattle.acoustic.proofs.fourth_compact.judge.Goals as goal

pub returns-then-level-gt-LIMIT_LEVEL : goal.returns-then-level-gt-LIMIT_LEVEL
returns-then-level-gt-LIMIT_LEVEL c = simp (lt-ltb _ _ c.if-level-gt-LIMIT_LEVEL.true)

pub returns : goal.returns
returns c = simp (le-ltb _ _ c.if-level-gt-LIMIT_LEVEL.false) c.judge_lengths.ensures
