use mathlib.Core.Path.{sym, ◌∙◌}
use native.Mathlib.Omega.{arith}
use Rattle.tables.specs.Full.{full_above, full-wrong, full-passes}
use Rattle.tables.proofs.sets.judge_full.Goals as goal

pub returns-then-n-limit : goal.returns-then-n-limit
returns-then-n-limit c = let a = c.args in full_above a.limit a.m a.len a.n c.if-n-limit.true

pub set_length-requires : goal.set_length-requires
set_length-requires c = let p = c.requires in (omega arith, omega arith, p.1)

pub returns-then-len-set_length : goal.returns-then-len-set_length
returns-then-len-set_length c = let a = c.args in full-wrong a.limit a.m a.len a.n (omega arith) (λ e. c.if-len-set_length.true (e ∙ sym c.set_length.ensures))

pub returns : goal.returns
returns c = let a = c.args in full-passes a.limit a.m a.len a.n (omega arith) (c.if-len-set_length.false ∙ c.set_length.ensures)
