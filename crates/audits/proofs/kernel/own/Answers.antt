use native.Mathlib.Omega.{arith}
use mathlib.Core.Path.{ap}
use lib.ListN.{get_or}
use lib.Ieee.{nan}
use Rattle.audits.proofs.kernel.own.Goals as goal

pub index_of-requires : goal.index_of-requires
index_of-requires c = let h = c.requires in omega arith

pub returns : goal.returns
returns c = ap (λ q. get_or c.args.fc.now q nan) c.index_of.ensures
