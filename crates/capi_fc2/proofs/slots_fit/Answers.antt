use mathlib.Core.Path.{refl}
use borrow.Author.Tests.{eq-eqb, ne_eqb}
use Rattle.capi_fc2.proofs.slots_fit.Goals as goal

pub returns-then-len_value-eq1 : goal.returns-then-len_value-eq1
returns-then-len_value-eq1 c = rw (eq-eqb c.args.len_value 1 c.if-len_value-eq1.true) refl

pub returns-else-len_value-eq1 : goal.returns-else-len_value-eq1
returns-else-len_value-eq1 c = rw (ne_eqb c.args.len_value 1 c.if-len_value-eq1.false) refl
