use Prim.Native.Nat.{suc}
use native.Mathlib.Omega.{arith}
use mathlib.Core.Path.{ap, ap₂, ◌∙◌}
use lib.ListN.{length}
use Rattle.blocks.specs.Block.{length-block}
use Rattle.rotations.specs.Rotation.{rotated}
use Rattle.crystal.proofs.Widths.{rotated_in}
use Rattle.reports.specs.Loops.{look_differences}
use borrow.Author.Rules.{rules}
use Rattle.crystal.proofs.any_order.look_block.Goals as goal

pub read-x-requires : goal.read-x-requires
read-x-requires g c = let n = g.met.O.Order.small.3 in (omega (arith, n), c.requires.0)

pub read-requires : goal.read-requires
read-requires g c = let n = g.met.O.Order.small.3 in (omega (arith, n), c.requires.1)

pub look_differences-requires : goal.look_differences-requires
look_differences-requires g c =
    let l = ap length c.read-x.ensures ∙ length-block g.row.N c.args.to c.args.fc.now in
    (search rules, omega (arith, c.requires.2, l))

pub returns : goal.returns
returns g c =
    let a = c.args in
    λ m e. c.look_differences.ensures
    ∙ ap₂ (λ x y. look_differences a.first x y a.seen) c.read-x.ensures (rotated_in m g.O.Order.RANK g.row.N _ g.met.O.Order.width e c.rotated-y.ensures ∙ ap (rotated m (suc g.O.Order.RANK)) c.read.ensures)
