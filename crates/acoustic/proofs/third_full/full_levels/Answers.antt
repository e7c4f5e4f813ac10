use native.Mathlib.Omega.{arith}
use mathlib.Core.Path.{◌≡◌, refl, ap, ◌∙◌}
use Rattle.lists.specs.Tab.{times, times_none, times_more}
use Rattle.places.specs.Places.{perms3, full_shifts}
use Rattle.orbits.specs.Symmetric.{mean6}
use Rattle.acoustic.specs.Acoustic.{leveled}
use Rattle.acoustic.proofs.third_full.full_levels.Goals as goal

pub loop-t-init : goal.loop-t-init
loop-t-init c = (omega arith, refl, refl, times_none _ _)

pub full_level-requires : goal.full_level-requires
full_level-requires c = let l = c.loop-t in (rw (l.invariant.1, l.invariant.2) c.requires.0, c.requires.1)

pub loop-t-preserved : goal.loop-t-preserved
loop-t-preserved c =
    let l = c.loop-t in
    (omega arith, c.full_level.auto.fc3 ∙ l.invariant.1, c.full_level.auto.drift ∙ l.invariant.2, times_more l.t _ _ l.invariant.3 c.full_level.ensures)

pub returns : goal.returns
returns c =
    let a = c.args in
    let l = c.loop-t in
    let e : l.t ≡ a.level = omega (arith, c.loop-t-test.false, l.invariant.0) in
    l.invariant.3 ∙ ap (λ k. times k (λ _. leveled mean6 (full_shifts a.n) 2 perms3) a.fc3.now) e
