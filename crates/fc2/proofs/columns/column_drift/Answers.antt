use mathlib.Core.Path.{sym, subst}
use Prim.Native.Nat.{ℕ}
use native.Mathlib.Omega.{arith}
use Rattle.lines.specs.Lines.{Sized}
use Rattle.fc2.specs.Columns.{columns-all}
use Rattle.fc2.proofs.columns.column_drift.Goals as goal

pub panels-requires : goal.panels-requires
panels-requires c = (c.requires, omega arith)

pub overflow_mul-count : goal.overflow_mul-count
overflow_mul-count c =
    omega (arith, c.requires.small)

pub last_columns-requires : goal.last_columns-requires
last_columns-requires c =
    (subst (λ (m : ℕ). Sized c.args.n c.args.n m) (sym c.panels.auto.fc) c.requires, omega arith)

pub returns : goal.returns
returns c =
    let a = c.args in
    columns-all a.n a.inv_n a.fc.now c.requires.long _ (c.last_columns.ensures a.fc.now c.panels.ensures)
