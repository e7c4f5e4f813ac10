use Prim.Native.Nat.{◌+◌, ◌*◌}
use native.Mathlib.Omega.{arith}
use Rattle.places.specs.Addresses.{grown}
use Rattle.lists.specs.Digits.{horner}
use Rattle.places.proofs.block4.Goals as goal

pub index_of-requires : goal.index_of-requires
unfolding horner
index_of-requires c =
    let h2 = grown 1024 c.args.p.0 c.args.n_satom c.args.j.0 c.requires.1 c.requires.2 c.requires.0 in
    let h3 = grown (1024 * 1024) (c.args.p.0 * c.args.n_satom + c.args.j.0) c.args.n_satom c.args.k.0 h2 c.requires.3 c.requires.0 in
    let h4 = grown (1024 * 1024 * 1024) ((c.args.p.0 * c.args.n_satom + c.args.j.0) * c.args.n_satom + c.args.k.0) c.args.n_satom c.args.l.0 h3 c.requires.4 c.requires.0 in
    rw c.block3.ensures (omega (arith, h4))

pub returns : goal.returns
unfolding horner
returns c = cc
