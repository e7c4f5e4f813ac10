use native.Mathlib.Omega.{arith}
use mathlib.Core.Path.{refl}
use Rattle.audits.specs.Kernel.{another, difference_in, readable, in_here, order_below}
use Rattle.audits.proofs.kernel.difference.Goals as goal

pub first_order-i-requires : goal.first_order-i-requires
first_order-i-requires c = (c.requires.0, c.requires.1)

pub own-here-requires : goal.own-here-requires
own-here-requires c = in_here c.requires.0 c.args.k c.requires.1

pub read-there-requires : goal.read-there-requires
read-there-requires c =
    let e = c.first_order-i.ensures in
    let a = c.args in
    let h = order_below (another a.width a.bs.now a.t.now a.fc.now a.b a.k) c.requires.2 e in
    readable c.requires.0 _ c.args.k h c.requires.1

pub index_of-place-requires : goal.index_of-place-requires
index_of-place-requires c = let h = in_here c.requires.0 c.args.k c.requires.1 in omega arith

pub returns : goal.returns
unfolding difference_in
returns c =
    rw (c.index_of-place.ensures, c.own-here.ensures, c.read-there.ensures, c.first_order-i.ensures) refl
