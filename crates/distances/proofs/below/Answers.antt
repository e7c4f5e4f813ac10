use Rattle.distances.proofs.Numbers.{squares-far, root-far, root_none, told-near, told_none}
use lib.Dec.{T}
use lib.Ieee.{Float, lt}
use mathlib.Core.Path.{sym, ap, subst, ◌∙◌}
use Rattle.distances.proofs.below.Goals as goal

pub returns-then-d2-reach : goal.returns-then-d2-reach
returns-then-d2-reach c =
    let a = c.args in
    squares-far a.symprec a.reach.square a.reach.sure (subst T (sym c.well_formed.1.0.1) tt) c.requires.1 a.d2 (subst T (sym c.well_formed.0.1) tt) c.requires.0 c.if-d2-reach.true

pub returns-then-d2-reach-2 : goal.returns-then-d2-reach-2
returns-then-d2-reach-2 c =
    told-near _ c.args.symprec (c.requires.1.near c.args.d2 c.requires.0 c.if-d2-reach-2.true)

pub returns-then-d2 : goal.returns-then-d2
returns-then-d2 c =
    told_none _ c.args.symprec (root_none c.args.d2 c.if-d2.true)

pub returns-then-sqrt-symprec : goal.returns-then-sqrt-symprec
returns-then-sqrt-symprec c =
    told-near _ c.args.symprec (ap (λ (x : Float). lt x c.args.symprec) (sym c.sqrt.ensures) ∙ c.if-sqrt-symprec.true)

pub returns : goal.returns
returns c =
    let a = c.args in
    root-far a.symprec a.reach.square a.reach.sure (subst T (sym c.well_formed.1.0.1) tt) c.requires.1 a.d2 c.sqrt.result c.requires.0 c.if-d2.false c.sqrt.ensures c.if-sqrt-symprec.false
