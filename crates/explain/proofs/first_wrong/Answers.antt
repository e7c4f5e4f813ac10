use native.Mathlib.Omega.{arith}
use borrow.Author.Tests.{eq-eqb, ne_eqb}
use Rattle.lists.specs.Lowest.{lowest}
use Rattle.shifts.proofs.Together.{product_small}
use Rattle.explain.proofs.first_wrong.Goals as goal

pub overflow_mul-tables : goal.overflow_mul-tables
overflow_mul-tables c = omega (arith, product_small c.args.tables.now.num_trans c.args.tables.now.n_satom c.requires.1 c.requires.0)

pub returns-then-tables : goal.returns-then-tables
unfolding lowest
returns-then-tables c = simp (ne_eqb _ _ c.if-tables.true)

pub returns-then-tables-2 : goal.returns-then-tables-2
unfolding lowest
returns-then-tables-2 c = simp (eq-eqb _ _ c.if-tables.false, ne_eqb _ _ c.if-tables-2.true)

pub returns-then-tables-3 : goal.returns-then-tables-3
unfolding lowest
returns-then-tables-3 c = simp (eq-eqb _ _ c.if-tables.false, eq-eqb _ _ c.if-tables-2.false, ne_eqb _ _ c.if-tables-3.true)

pub returns-then-tables-4 : goal.returns-then-tables-4
unfolding lowest
returns-then-tables-4 c = simp (eq-eqb _ _ c.if-tables.false, eq-eqb _ _ c.if-tables-2.false, eq-eqb _ _ c.if-tables-3.false, ne_eqb _ _ c.if-tables-4.true)

pub returns : goal.returns
unfolding lowest
returns c = simp (eq-eqb _ _ c.if-tables.false, eq-eqb _ _ c.if-tables-2.false, eq-eqb _ _ c.if-tables-3.false, eq-eqb _ _ c.if-tables-4.false)
