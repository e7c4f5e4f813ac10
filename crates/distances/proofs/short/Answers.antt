use Rattle.distances.proofs.Squares.{sum-plus}
use Rattle.distances.proofs.Numbers.{first-far}
use Rattle.distances.specs.Near.{squares}
use lib.Dec.{T}
use mathlib.Core.Path.{sym, subst}
use Rattle.distances.proofs.short.Goals as goal

pub returns-then-first-reach : goal.returns-then-first-reach
returns-then-first-reach c =
    let a = c.args in
    let d = c.dot-a in
    first-far a.symprec a.reach.square a.reach.sure (subst T (sym c.well_formed.1.0.1) tt) c.requires.0 a.l a.x a.y a.z d.result a.reach.early c.requires.1 c.requires.2 d.ensures c.if-first-reach.true

pub below-requires : goal.below-requires
below-requires c = (sum-plus _ _ _, c.requires.0)

pub returns : goal.returns
unfolding squares
returns c =
    rw (c.below.ensures, c.dot-c.ensures, c.dot-b.ensures, c.dot-a.ensures)
