use borrow.Author.Tests.{lt-ltb, le-ltb}
use Rattle.deltas.proofs.counts_above.Goals as goal

pub returns-then-num_atom-limit : goal.returns-then-num_atom-limit
returns-then-num_atom-limit c = simp (lt-ltb _ _ c.if-num_atom-limit.true)

pub returns-then-num_site_sym-gt-LIMIT_LIST : goal.returns-then-num_site_sym-gt-LIMIT_LIST
returns-then-num_site_sym-gt-LIMIT_LIST c = simp (le-ltb _ _ c.if-num_atom-limit.false, lt-ltb _ _ c.if-num_site_sym-gt-LIMIT_LIST.true)

pub returns-then-num_disp-gt-LIMIT_LIST : goal.returns-then-num_disp-gt-LIMIT_LIST
returns-then-num_disp-gt-LIMIT_LIST c = simp (le-ltb _ _ c.if-num_atom-limit.false, le-ltb _ _ c.if-num_site_sym-gt-LIMIT_LIST.false, lt-ltb _ _ c.if-num_disp-gt-LIMIT_LIST.true)

pub returns : goal.returns
returns c = simp (le-ltb _ _ c.if-num_atom-limit.false, le-ltb _ _ c.if-num_site_sym-gt-LIMIT_LIST.false, le-ltb _ _ c.if-num_disp-gt-LIMIT_LIST.false)
