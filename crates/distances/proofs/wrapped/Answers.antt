use Rattle.distances.proofs.Wraps.{fast_wrap}
use lib.Ieee.Fits.{sub-fits}
use lib.Ieee.{binary64, sub}
use Rattle.distances.proofs.wrapped.Goals as goal

pub returns-then-x-2 : goal.returns-then-x-2
returns-then-x-2 c =
    let a = c.args in
    fast_wrap (sub binary64 a.a a.b) (sub-fits binary64 a.a a.b) c.if-sum.true c.if-x.true c.if-x-2.true

pub returns : goal.returns
returns c = rw c.round.ensures
