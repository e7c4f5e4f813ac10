use mathlib.Core.Path.{ap, ◌∙◌}
use native.Mathlib.Omega.{arith}
use Rattle.lists.specs.Tab.{length-tab}
use Rattle.blocks.specs.Block.{part-block, back_put}
use Rattle.deltas.specs.Rows.{axpy, lead}
use Rattle.deltas.proofs.rows.lead.Goals as goal

pub returns : goal.returns
unfolding lead axpy
returns g c =
    let a = c.args in
    let w = g.row.W in
    let (some, few, fits) = c.requires in
    back_put w a.g a.s.now (omega arith) fits
    (c.axpy.ensures ∙ ap (axpy w a.u a.x) (part-block w a.g a.s.now fits))
    (length-tab w _)
