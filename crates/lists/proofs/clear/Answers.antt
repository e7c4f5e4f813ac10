use Rattle.std.proofs.Common.{arith}
use Rattle.lists.specs.Clear.{cleared_all}
use Rattle.lists.proofs.clear.Goals as goal

pub returns : goal.returns
returns g c =
    let l = c.loop-i in
    cleared_all c.args.zero _ l.i l.w (omega arith) l.invariant
