use mathlib.Core.Path.{◌≡◌, sym, subst, ◌∙◌}
use mathlib.Core.List.{List}
use lib.Ieee.{Float}
use Prim.Native.Nat.{ℕ, ◌+◌, ◌*◌}
use native.Mathlib.Omega.{arith}
use Rattle.lines.specs.Lines.{Sized}
use Rattle.fc2.specs.Columns.{Columns, columns-none, columns_panel, panel_drifted, Drifted}
use Rattle.fc2.proofs.columns.panels.Goals as goal

pub loop-g-init : goal.loop-g-init
loop-g-init c =
    (omega arith, columns-none c.args.n c.args.inv_n c.args.fc.now c.requires.0.long)

pub overflow_mul-g : goal.overflow_mul-g
overflow_mul-g c =
    omega (arith, c.requires.1)

pub panel_drift-requires : goal.panel_drift-requires
panel_drift-requires c =
    let l = c.loop-g in
    (subst (λ (m : ℕ). Sized c.args.n c.args.n m) (sym l.invariant.1.long) c.requires.0, omega (arith, c.requires.1))

pub loop-g-preserved : goal.loop-g-preserved
loop-g-preserved c =
    let w = c.panel_drift in
    let l = c.loop-g in
    let a = c.args in
    let e : l.g * 8 + 8 ≡ (l.g + 1) * 8 = omega arith in (
      omega arith,
      subst (λ (j : ℕ). Columns a.n a.inv_n a.fc.now j w.new.fc) e (columns_panel a.n a.inv_n a.fc.now c.requires.0.long (l.g * 8) l.fc w.new.fc l.invariant.1
          (subst (λ (ys : List Float). Drifted a.n (l.g * 8) a.inv_n l.fc ys) (sym w.ensures)
          (panel_drifted a.n (l.g * 8) a.inv_n l.fc (l.invariant.1.long ∙ c.requires.0.long) (omega (arith, c.requires.1))))),
    )

pub shape_of-fc : goal.shape_of-fc
shape_of-fc c = c.loop-g.invariant.1.long

pub returns : goal.returns
returns c =
    let l = c.loop-g in
    let a = c.args in
    let e : l.g ≡ a.count = omega arith in
    subst (λ (g : ℕ). Columns a.n a.inv_n a.fc.now (g * 8) l.fc) e l.invariant.1
