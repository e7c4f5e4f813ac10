use mathlib.Core.Bool.{not}
use mathlib.Core.Path.{refl, ap}
use native.Mathlib.Omega.{arith}
use borrow.Author.Tests.{eq-eqb, ne_eqb}
use Rattle.lists.specs.Tests.{or-here, or-next, or-last}
use Rattle.shifts.proofs.Together.{product_small}
use Rattle.shifts.proofs.any_wrong.Goals as goal

pub overflow_mul-tables : goal.overflow_mul-tables
overflow_mul-tables c = omega (arith, product_small c.args.tables.now.num_trans c.args.tables.now.n_satom c.requires.1 c.requires.0)

pub returns-then-tables : goal.returns-then-tables
returns-then-tables c = or-here _ _ (ap not (ne_eqb _ _ c.if-tables.true))

pub returns-then-tables-2 : goal.returns-then-tables-2
returns-then-tables-2 c = or-next _ _ (ap not (eq-eqb _ _ c.if-tables.false)) (or-here _ _ (ap not (ne_eqb _ _ c.if-tables-2.true)))

pub returns-then-tables-3 : goal.returns-then-tables-3
returns-then-tables-3 c =
    or-next _ _ (ap not (eq-eqb _ _ c.if-tables.false))
    (or-next _ _ (ap not (eq-eqb _ _ c.if-tables-2.false)) (or-here _ _ (ap not (ne_eqb _ _ c.if-tables-3.true))))

pub returns : goal.returns
returns c =
    or-next _ _ (ap not (eq-eqb _ _ c.if-tables.false))
    (or-next _ _ (ap not (eq-eqb _ _ c.if-tables-2.false)) (or-next _ _ (ap not (eq-eqb _ _ c.if-tables-3.false)) (or-last _ refl)))
