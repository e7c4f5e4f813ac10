use native.Mathlib.Omega.{arith}
use Rattle.row_sums.specs.Calls.{full_is, block_in, sums_in, replaced-by}
use Rattle.row_sums.proofs.replace.Goals as goal

pub full2-b-requires : goal.full2-b-requires
full2-b-requires c = let r = c.requires in (r.sized.small, r.first, r.second)

pub read9-old-requires : goal.read9-old-requires
read9-old-requires c =
    rw (full_is c.args.n c.args.i c.args.j c.full2-b.ensures) (block_in c.requires)

pub read9-s-requires : goal.read9-s-requires
read9-s-requires c = sums_in c.requires

pub write9-requires : goal.write9-requires
write9-requires c =
    rw (full_is c.args.n c.args.i c.args.j c.full2-b.ensures) (block_in c.requires)

-- for atom j there would be room too
pub write9-requires-2 : goal.write9-requires-2
write9-requires-2 c =
    let hi = c.requires.first in
    let hj = c.requires.second in
    let e = c.requires.sums-long in
    omega arith

pub returns : goal.returns
returns c =
    let a = c.args in
    replaced-by a.fc.now a.sums.now a.block a.i a.j a.n c.full2-b.result _ _ c.read9-old.result c.read9-s.result c.corrected.result
    (full_is a.n a.i a.j c.full2-b.ensures) c.read9-old.ensures c.read9-s.ensures c.corrected.ensures c.write9.ensures c.write9-2.ensures
