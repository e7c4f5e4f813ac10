use native.Mathlib.Omega.{arith}
use Rattle.places.specs.Addresses.{grown}
use Rattle.lists.specs.Digits.{horner}
use borrow.Author.Rules.{rules}
use Rattle.places.proofs.full2.Goals as goal

pub index_of-requires : goal.index_of-requires
unfolding horner
index_of-requires c =
    let h2 = grown 1024 c.args.i.0 c.args.n c.args.j.0 (omega arith) c.requires.2 c.requires.0 in
    omega (arith, h2)

pub returns : goal.returns
unfolding horner
returns c = search rules
