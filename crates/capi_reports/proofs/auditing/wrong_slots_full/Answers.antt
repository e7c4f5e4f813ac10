use borrow.Author.Tests.{lt-ltb, le-ltb}
use Rattle.capi_reports.proofs.auditing.wrong_slots_full.Goals as goal

pub returns-then-n-limit : goal.returns-then-n-limit
returns-then-n-limit c = simp (lt-ltb _ _ c.if-n-limit.true)

pub returns : goal.returns
returns c = simp (le-ltb _ _ c.if-n-limit.false)
