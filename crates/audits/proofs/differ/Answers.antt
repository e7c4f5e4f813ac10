use mathlib.Core.Path.{ap₂}
use mathlib.Core.Bool.{not}
use lib.Dec.{eqb}
use Rattle.audits.specs.Audit.{differ}
use Rattle.audits.proofs.differ.Goals as goal

pub returns : goal.returns
unfolding differ
returns c = ap₂ (λ a b. not (eqb a b)) c.float_word.ensures c.float_word-2.ensures
