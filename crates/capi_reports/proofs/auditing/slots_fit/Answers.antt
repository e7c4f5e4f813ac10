use mathlib.Core.Path.{refl}
use borrow.Author.Tests.{eq-eqb, ne_eqb}
use Rattle.capi_reports.proofs.auditing.slots_fit.Goals as goal

pub returns-then-len_place-eq2 : goal.returns-then-len_place-eq2
returns-then-len_place-eq2 c = rw (eq-eqb c.args.len_place 2 c.if-len_place-eq2.true) refl

pub returns-else-len_place-eq2 : goal.returns-else-len_place-eq2
returns-else-len_place-eq2 c = rw (ne_eqb c.args.len_place 2 c.if-len_place-eq2.false) refl
