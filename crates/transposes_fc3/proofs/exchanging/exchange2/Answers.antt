use Rattle.places.specs.Moves.{order}
use Rattle.blocks.specs.Permuted.{permuted}
use Rattle.orbits.specs.InnerLaws.{flipped, swapped-flipped}
use Rattle.transposes_fc3.proofs.exchanging.exchange2.Goals as goal

pub returns-then-a-b : goal.returns-then-a-b
returns-then-a-b c =
    let a = c.args in
    flipped 27 (permuted 2 (order 2)) a.a a.b a.fc3.now c.if-a-b.true c.permute2.ensures

pub returns : goal.returns
returns c =
    let a = c.args in
    swapped-flipped 27 (permuted 2 (order 2)) a.a a.b a.fc3.now c.if-a-b.false c.requires.0 c.requires.1 c.swap_blocks.ensures c.permute2-2.ensures c.permute2-3.ensures
