use native.Mathlib.Omega.{arith}
use Rattle.lists.specs.Digits.{horner}
use Rattle.places.proofs.dir3.Goals as goal

pub index_of-requires : goal.index_of-requires
unfolding horner
index_of-requires c = omega arith

pub returns : goal.returns
unfolding horner
returns c = cc
