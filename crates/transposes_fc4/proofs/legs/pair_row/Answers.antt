use mathlib.Core.Path.{ap₂}
use lib.ListN.{get_or}
use native.Mathlib.Omega.{arith}
use Rattle.transposes_fc4.proofs.legs.pair_row.Goals as goal

pub index_of-requires : goal.index_of-requires
index_of-requires c = omega (arith, c.requires.0, c.requires.1)

pub bounds-rows-index_of : goal.bounds-rows-index_of
bounds-rows-index_of c = rw c.index_of.ensures (omega (arith, c.requires.0, c.requires.1))

pub returns : goal.returns
returns c = ap₂ (λ l k. get_or l k 0) c.pair_rows-rows.ensures c.index_of.ensures
