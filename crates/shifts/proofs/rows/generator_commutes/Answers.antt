use mathlib.Core.Path.{refl}
use native.Mathlib.Omega.{arith}
use Rattle.shifts.proofs.rows.generator_commutes.Goals as goal

pub bounds-gens-g : goal.bounds-gens-g
bounds-gens-g c = omega (arith, c.requires.0.shifts, c.requires.1)

pub returns-then-gens-g-eq0 : goal.returns-then-gens-g-eq0
returns-then-gens-g-eq0 c = (λ _ p. absurd (p c.if-gens-g-eq0.true), λ _. refl)

pub commutes-requires : goal.commutes-requires
commutes-requires c = c.requires

pub returns : goal.returns
returns c = (λ e _. c.commutes.ensures.0 e, λ f. c.commutes.ensures.1 (f c.if-gens-g-eq0.false))
