use Rattle.std.specs.Prelude.{Err}
use mathlib.Core.Path.{◌≡◌, refl}
use Prim.Native.Nat.{ℕ, ◌<◌}
use lib.Dec.{lit≤}
use borrow.Author.Tests.{lt-ltb, le-ltb}
use Rattle.tables.specs.declared.Refusal.TheVariants.{CountAboveLimit}
use Rattle.fc2.specs.Full.{judged_full_levels}
use Rattle.fc2.proofs.full.judge_levels.Goals as goal

-- the fact that an edit of the test for it breaks
many-levels : (len n level : ℕ) → 1000 < level → Err CountAboveLimit ≡ judged_full_levels len n level
many-levels len n level h = rw (lt-ltb 1000 level h) refl

pub returns-then-level-gt-LIMIT_LEVEL : goal.returns-then-level-gt-LIMIT_LEVEL
returns-then-level-gt-LIMIT_LEVEL c = let a = c.args in many-levels a.len a.n a.level c.if-level-gt-LIMIT_LEVEL.true

pub judge_full-requires : goal.judge_full-requires
judge_full-requires c = (lit≤ tt, lit≤ tt)

pub returns : goal.returns
returns c = rw (le-ltb 1000 c.args.level c.if-level-gt-LIMIT_LEVEL.false) c.judge_full.ensures
