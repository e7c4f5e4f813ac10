use Prim.Native.Nat.{◌+◌, ◌*◌}
use native.Mathlib.Omega.{arith}
use Rattle.places.specs.Addresses.{grown}
use Rattle.lists.specs.Digits.{horner}
use Rattle.places.proofs.full3.Goals as goal

pub index_of-requires : goal.index_of-requires
unfolding horner
index_of-requires c =
    let h2 = grown 1024 c.args.i.0 c.args.n c.args.j.0 (omega arith) c.requires.2 c.requires.0 in
    let h3 = grown (1024 * 1024) (c.args.i.0 * c.args.n + c.args.j.0) c.args.n c.args.k.0 h2 c.requires.3 c.requires.0 in
    rw c.full2.ensures (omega (arith, h3))

pub returns : goal.returns
unfolding horner
returns c = cc
