use Rattle.distances.proofs.Numbers.{all_finite, never_early, if_so, if_not}
use lib.Dec.{T}
use mathlib.Core.Path.{refl, sym, subst}
use Rattle.distances.proofs.early_of.Goals as goal

pub returns-then-zero : goal.returns-then-zero
returns-then-zero c =
    let a = c.args in
    let g = c.well_formed in
    (if_so _ a.square c.if-zero.true refl, all_finite a.square a.p a.q a.r a.s a.t a.u (subst T (sym g.1.0.1) tt) (subst T (sym g.1.1.0.1) tt) (subst T (sym g.1.1.1.0.1) tt) (subst T (sym g.1.1.1.1.0.1) tt) (subst T (sym g.1.1.1.1.1.0.1) tt) (subst T (sym g.1.1.1.1.1.1.0.1) tt) _ c.if-zero.true)

pub returns : goal.returns
returns c =
    let a = c.args in
    (if_not _ a.square c.if-zero.false, never_early a.square a.p a.q a.r a.s a.t a.u)
