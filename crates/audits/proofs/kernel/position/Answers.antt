use Prim.Native.Nat.{◌<◌}
use native.Mathlib.Omega.{arith}
use mathlib.Core.Path.{ap}
use lib.ListN.{get_or}
use Rattle.audits.proofs.kernel.position.Goals as goal

pub index_of-requires : goal.index_of-requires
index_of-requires c = let g = c.requires.0 in let h = c.requires.1 in omega arith

pub overflow_cast-result : goal.overflow_cast-result
overflow_cast-result c =
    let g : get_or c.args.t.now c.index_of.result 0 < 81 = rw c.index_of.ensures c.requires.2 in
    omega (arith, g)

pub returns : goal.returns
returns c = ap (λ q. get_or c.args.t.now q 0) c.index_of.ensures
