use mathlib.Core.Path.{sym, ap, subst}
use lib.Dec.{T}
use lib.Ieee.{Float, lt}
use Rattle.distances.proofs.Squares.{too_long}
use Rattle.distances.proofs.root_below.Goals as goal

pub returns-then-q-reach : goal.returns-then-q-reach
returns-then-q-reach c =
    let a = c.args in
    sym (too_long a.symprec a.reach.square a.reach.sure (subst T (sym c.well_formed.1.0.1) tt) c.requires.1 a.q (subst T (sym c.well_formed.0.1) tt) c.if-q-reach.true)

pub returns-then-q-reach-2 : goal.returns-then-q-reach-2
returns-then-q-reach-2 c =
    sym (c.requires.1.near c.args.q c.requires.0 c.if-q-reach-2.true)

pub returns : goal.returns
returns c =
    ap (λ (x : Float). lt x c.args.symprec) c.sqrt.ensures
