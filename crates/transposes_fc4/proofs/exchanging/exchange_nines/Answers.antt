use Rattle.places.specs.Moves.{order4}
use Rattle.blocks.specs.Permuted.{permuted}
use Rattle.orbits.specs.InnerLaws.{flipped, swapped-flipped}
use Rattle.transposes_fc4.proofs.exchanging.exchange_nines.Goals as goal

pub returns-then-a-b : goal.returns-then-a-b
returns-then-a-b c =
    let a = c.args in
    flipped 81 (permuted 3 (order4 0)) a.a a.b a.fc4.now c.if-a-b.true c.permute_nines.ensures

pub returns : goal.returns
returns c =
    let a = c.args in
    swapped-flipped 81 (permuted 3 (order4 0)) a.a a.b a.fc4.now c.if-a-b.false c.requires.0 c.requires.1 c.swap_blocks.ensures c.permute_nines-2.ensures c.permute_nines-3.ensures
