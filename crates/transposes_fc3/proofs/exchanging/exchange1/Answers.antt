use mathlib.Core.Path.{refl}
use Rattle.places.specs.Moves.{order}
use Rattle.blocks.specs.Permuted.{permuted}
use Rattle.orbits.specs.Moved.{exchanged}
use Rattle.transposes_fc3.specs.Nines.{permuted_1}
use Rattle.transposes_fc3.proofs.exchanging.exchange1.Goals as goal

pub returns : goal.returns
returns c =
    let a = c.args in
    exchanged 27 (permuted 2 (order 1)) a.a a.b a.fc3.now c.read27-one.ensures c.read27-other.ensures (permuted_1 _ 1 refl c.permute_nml.ensures) (permuted_1 _ 1 refl c.permute_nml-2.ensures) c.write27.ensures c.write27-2.ensures
