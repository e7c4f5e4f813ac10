use mathlib.Core.Path.{◌≡◌, refl, sym, ◌∙◌, subst}
use mathlib.Core.List.{List}
use Prim.Native.Nat.{ℕ, ◌+◌, ◌*◌}
use native.Mathlib.Omega.{arith}
use lib.ListN.{length}
use lib.Ieee.{Float}
use Rattle.fc2.specs.FullLaws.{column-line}
use Rattle.fc2.specs.Columns.{Columns, columns-line}
use Rattle.fc2.proofs.columns.last_columns.Goals as goal

pub loop-j-init : goal.loop-j-init
loop-j-init c = (c.requires.1, refl, λ xs h. h)

pub line_drift-requires : goal.line_drift-requires
line_drift-requires c =
    let l = c.loop-j in
    rw l.invariant.1 (column-line c.requires.0 l.j c.loop-j-test.true)

pub loop-j-preserved : goal.loop-j-preserved
loop-j-preserved c =
    let w = c.line_drift in
    let l = c.loop-j in
    let a = c.args in (
      omega arith,
      w.auto.fc ∙ l.invariant.1,
      λ xs h.
          let d = l.invariant.2 xs h in
          let e : length xs ≡ a.n * a.n * 9 = sym d.long ∙ l.invariant.1 ∙ c.requires.0.long in
          subst (λ (ys : List Float). Columns a.n a.inv_n xs (l.j + 1) ys) (sym w.ensures)
          (columns-line a.n a.inv_n xs e l.j c.loop-j-test.true l.fc d),
    )

pub returns : goal.returns
returns c =
    let l = c.loop-j in
    let a = c.args in
    let e : l.j ≡ a.n = omega arith in
    λ xs h. subst (λ (j : ℕ). Columns a.n a.inv_n xs j l.fc) e (l.invariant.2 xs h)
