use mathlib.Core.Path.{sym}
use mathlib.Core.Bool.{false≢true}
use borrow.Author.Tests.{eqb-false, not-true}
use Rattle.fc3.proofs.spread.pairs.Goals as goal

pub returns-then-apart : goal.returns-then-apart
returns-then-apart c = λ e.
    let d = c.apart.ensures c.if-apart.true in
    (c.if-x2-x.true, c.if-y2-y.true, c.if-z2-z.true, ((d.0, (d.1.0, tt)), ((λ q. eqb-false _ _ (not-true _ e) (sym q), tt), (tt, tt))))

pub returns-else-apart : goal.returns-else-apart
returns-else-apart c = λ e. absurd (false≢true e)

pub returns-else-z2-z : goal.returns-else-z2-z
returns-else-z2-z c = λ e. absurd (false≢true e)

pub returns-else-y2-y : goal.returns-else-y2-y
returns-else-y2-y c = λ e. absurd (false≢true e)

pub returns-else-x2-x : goal.returns-else-x2-x
returns-else-x2-x c = λ e. absurd (false≢true e)
