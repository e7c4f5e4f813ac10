use mathlib.Core.Path.{refl}
use lib.Dec.{lit<}
use borrow.Author.Tests.{eq-eqb, ne_eqb}
use Rattle.fc3.specs.Coinciding.{first_at}
use Rattle.fc3.proofs.spots.slot.Goals as goal

pub returns-then-b0-b : goal.returns-then-b0-b
unfolding first_at
returns-then-b0-b c = (rw (eq-eqb _ _ c.if-b0-b.true) refl, lit< tt)

pub returns-then-b1-b : goal.returns-then-b1-b
unfolding first_at
returns-then-b1-b c = (rw (ne_eqb _ _ c.if-b0-b.false, eq-eqb _ _ c.if-b1-b.true) refl, lit< tt)

pub returns-then-b2-b : goal.returns-then-b2-b
unfolding first_at
returns-then-b2-b c = (rw (ne_eqb _ _ c.if-b0-b.false, ne_eqb _ _ c.if-b1-b.false, eq-eqb _ _ c.if-b2-b.true) refl, lit< tt)

pub returns-then-b3-b : goal.returns-then-b3-b
unfolding first_at
returns-then-b3-b c = (rw (ne_eqb _ _ c.if-b0-b.false, ne_eqb _ _ c.if-b1-b.false, ne_eqb _ _ c.if-b2-b.false, eq-eqb _ _ c.if-b3-b.true) refl, lit< tt)

pub returns-then-b4-b : goal.returns-then-b4-b
unfolding first_at
returns-then-b4-b c = (rw (ne_eqb _ _ c.if-b0-b.false, ne_eqb _ _ c.if-b1-b.false, ne_eqb _ _ c.if-b2-b.false, ne_eqb _ _ c.if-b3-b.false, eq-eqb _ _ c.if-b4-b.true) refl, lit< tt)

pub returns : goal.returns
unfolding first_at
returns c = (rw (ne_eqb _ _ c.if-b0-b.false, ne_eqb _ _ c.if-b1-b.false, ne_eqb _ _ c.if-b2-b.false, ne_eqb _ _ c.if-b3-b.false, ne_eqb _ _ c.if-b4-b.false) refl, lit< tt)
