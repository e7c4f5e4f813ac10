use mathlib.Core.Path.{sym, ◌∙◌}
use Rattle.audits.specs.Kernel.{look-seen, look-unseen}
use Rattle.audits.proofs.kernel.look.Goals as goal

pub first_position-requires : goal.first_position-requires
first_position-requires c = c.requires

pub returns-then-seen_before : goal.returns-then-seen_before
returns-then-seen_before c = let a = c.args in look-seen a.width a.bs.now a.t.now a.fc.now a.b (sym c.seen_before.ensures ∙ c.if-seen_before.true)

pub returns : goal.returns
returns c = let a = c.args in look-unseen a.width a.bs.now a.t.now a.fc.now a.b (sym c.seen_before.ensures ∙ c.if-seen_before.false) c.first_position.ensures
