use Rattle.fc2_compact.specs.Visits.{swapped-by}
use Rattle.fc2_compact.proofs.pairs.swap_blocks.Goals as goal

pub returns : goal.returns
returns c =
    let a = c.args in
    swapped-by a.b a.c a.fc.now c.read9-x.ensures c.read9-y.ensures c.transposed9.ensures c.transposed9-2.ensures c.write9.ensures c.write9-2.ensures
