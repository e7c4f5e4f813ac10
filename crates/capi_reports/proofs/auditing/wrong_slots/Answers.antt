use borrow.Author.Tests.{lt-ltb, le-ltb}
use Rattle.capi_reports.proofs.auditing.wrong_slots.Goals as goal

pub returns-then-n_satom-limit : goal.returns-then-n_satom-limit
returns-then-n_satom-limit c = simp (lt-ltb _ _ c.if-n_satom-limit.true)

pub returns-then-n_patom-limit : goal.returns-then-n_patom-limit
returns-then-n_patom-limit c = simp (le-ltb _ _ c.if-n_satom-limit.false, lt-ltb _ _ c.if-n_patom-limit.true)

pub returns-then-num_trans-limit : goal.returns-then-num_trans-limit
returns-then-num_trans-limit c = simp (le-ltb _ _ c.if-n_satom-limit.false, le-ltb _ _ c.if-n_patom-limit.false, lt-ltb _ _ c.if-num_trans-limit.true)

pub returns : goal.returns
returns c = simp (le-ltb _ _ c.if-n_satom-limit.false, le-ltb _ _ c.if-n_patom-limit.false, le-ltb _ _ c.if-num_trans-limit.false)
