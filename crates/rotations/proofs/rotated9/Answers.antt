use native.Mathlib.Omega.{arith}
use Rattle.rotations.specs.Laws.{sized, sums-width}
use borrow.Author.Rules.{rules}
use Rattle.rotations.proofs.rotated9.Goals as goal

pub sums9-requires : goal.sums9-requires
sums9-requires c = sized 9 0 9 (search rules) (search rules) (omega arith) (omega arith)

pub returns : goal.returns
returns c =
    let a = c.args in
    sums-width 9 9 0 a.c.now a.t (search rules) c.sums9.ensures
