use Rattle.lines.specs.Lines.{row_drifts, row-start, run_line}
use Rattle.lists.specs.Tab.{times_none, times_more}
use mathlib.Core.Path.{◌≡◌, refl, ◌∙◌}
use native.Mathlib.Omega.{arith}
use Prim.Native.Nat.{◌*◌}
use Rattle.lines.proofs.row_drift.Goals as goal

pub loop-i-init : goal.loop-i-init
loop-i-init c = (refl, times_none _ _)

pub index_of-requires : goal.index_of-requires
index_of-requires c =
    row-start c.requires c.loop-i.i c.loop-i-test.true

pub line_drift-requires : goal.line_drift-requires
line_drift-requires c =
    let l = c.loop-i in
    let e = c.index_of.ensures in
    rw l.invariant.0 (run_line c.requires l.i c.args.n _ c.loop-i-test.true (omega arith))

pub loop-i-preserved : goal.loop-i-preserved
loop-i-preserved c =
    let l = c.loop-i in
    let e : c.index_of.result ≡ l.i * c.args.n = omega (arith, c.index_of.ensures) in
    (c.line_drift.auto.fc ∙ l.invariant.0, times_more l.i _ _ l.invariant.1 (rw e at c.line_drift.ensures))

pub returns : goal.returns
unfolding row_drifts
returns c =
    let l = c.loop-i in
    let i : l.i ≡ c.args.rows = omega arith in
    l.invariant.1 ∙ rw i
