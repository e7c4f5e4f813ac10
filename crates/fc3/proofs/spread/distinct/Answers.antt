use mathlib.Core.Path.{sym}
use mathlib.Core.Bool.{false≢true}
use borrow.Author.Tests.{eqb-false, not-true}
use Rattle.fc3.proofs.spread.distinct.Goals as goal

pub returns-then-apart-4 : goal.returns-then-apart-4
returns-then-apart-4 c = λ e.
    let d = c.apart-then-apart-3.ensures c.if-apart-4.true in
    let k = c.apart-then-apart-2.ensures c.if-apart-3.true in
    let m = c.apart-then-apart.ensures c.if-apart-2.true in
    let n = c.apart.ensures c.if-apart.true in
    (n, ((m.0, (m.1.0, (m.1.1.0, (m.1.1.1.0, tt)))), ((k.0, (k.1.0, (k.1.1.0, tt))), ((d.0, (d.1.0, tt)), ((λ q. eqb-false _ _ (not-true _ e) (sym q), tt), (tt, tt))))))

pub returns-else-apart-4 : goal.returns-else-apart-4
returns-else-apart-4 c = λ e. absurd (false≢true e)

pub returns-else-apart-3 : goal.returns-else-apart-3
returns-else-apart-3 c = λ e. absurd (false≢true e)

pub returns-else-apart-2 : goal.returns-else-apart-2
returns-else-apart-2 c = λ e. absurd (false≢true e)

pub returns-else-apart : goal.returns-else-apart
returns-else-apart c = λ e. absurd (false≢true e)
