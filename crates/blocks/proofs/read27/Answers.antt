use mathlib.Core.Path.{◌∙◌}
use native.Mathlib.Omega.{arith}
use Rattle.blocks.specs.Block9.{joined-block}
use Rattle.blocks.proofs.read27.Goals as goal

pub read9-x-requires : goal.read9-x-requires
read9-x-requires c = omega arith

pub read9-y-requires : goal.read9-y-requires
read9-y-requires c = omega arith

pub read9-z-requires : goal.read9-z-requires
read9-z-requires c = omega arith

pub returns : goal.returns
returns c =
    let a = c.args in
    c.join27.ensures ∙ joined-block a.b a.fc.now c.read9-x.ensures c.read9-y.ensures c.read9-z.ensures
