use mathlib.Core.Path.{sym, ◌∙◌}
use Rattle.fc2_compact.proofs.compact.exchange.Goals as goal

pub transpose_pass-requires : goal.transpose_pass-requires
transpose_pass-requires c = c.requires

pub returns-then-transpose : goal.returns-then-transpose
returns-then-transpose c = c.transpose_pass.ensures ∙ sym (rw c.if-transpose.true)

pub average_pass-requires : goal.average_pass-requires
average_pass-requires c = c.requires

pub returns : goal.returns
returns c = c.average_pass.ensures ∙ sym (rw c.if-transpose.false)
