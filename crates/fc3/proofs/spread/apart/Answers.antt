use mathlib.Core.Path.{sym}
use mathlib.Core.Bool.{false≢true}
use borrow.Author.Tests.{eqb-false, not-true}
use Rattle.fc3.proofs.spread.apart.Goals as goal

pub returns-then-a-b : goal.returns-then-a-b
returns-then-a-b c = λ e. absurd (false≢true e)

pub returns-then-a-c : goal.returns-then-a-c
returns-then-a-c c = λ e. absurd (false≢true e)

pub returns-then-a-d : goal.returns-then-a-d
returns-then-a-d c = λ e. absurd (false≢true e)

pub returns-then-a-e : goal.returns-then-a-e
returns-then-a-e c = λ e. absurd (false≢true e)

pub returns : goal.returns
returns c = λ e. (
  λ q. c.if-a-b.false (sym q),
  (λ q. c.if-a-c.false (sym q), (λ q. c.if-a-d.false (sym q), (λ q. c.if-a-e.false (sym q), (λ q. eqb-false _ _ (not-true _ e) (sym q), tt)))),
)
