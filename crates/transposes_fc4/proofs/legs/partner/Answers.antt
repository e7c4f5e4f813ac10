use mathlib.Core.Path.{sym}
use Rattle.orbits.specs.Exchanging.{partner-one, partner-two, partner_else}
use Rattle.transposes_fc4.proofs.legs.partner.Goals as goal

pub returns-then-k-leg_a : goal.returns-then-k-leg_a
returns-then-k-leg_a c =
    let a = c.args in
    sym (partner-one a.leg_a a.leg_b a.k c.if-k-leg_a.true)

pub returns-then-k-leg_b : goal.returns-then-k-leg_b
returns-then-k-leg_b c =
    let a = c.args in
    sym (partner-two a.leg_a a.leg_b a.k c.if-k-leg_a.false c.if-k-leg_b.true)

pub returns : goal.returns
returns c =
    let a = c.args in
    sym (partner_else a.leg_a a.leg_b a.k c.if-k-leg_a.false c.if-k-leg_b.false)
