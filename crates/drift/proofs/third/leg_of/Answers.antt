use borrow.Author.Tests.{eq-eqb, ne_eqb}
use Rattle.drift.specs.ThirdReport.{leg_of}
use Rattle.drift.proofs.third.leg_of.Goals as goal

pub returns-then-t-eq0 : goal.returns-then-t-eq0
unfolding leg_of
returns-then-t-eq0 c = simp (eq-eqb _ _ c.if-t-eq0.true)

pub returns-then-t-eq1 : goal.returns-then-t-eq1
unfolding leg_of
returns-then-t-eq1 c = simp (ne_eqb _ _ c.if-t-eq0.false, eq-eqb _ _ c.if-t-eq1.true)

pub returns : goal.returns
unfolding leg_of
returns c = simp (ne_eqb _ _ c.if-t-eq0.false, ne_eqb _ _ c.if-t-eq1.false)
