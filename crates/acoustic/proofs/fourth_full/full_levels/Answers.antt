use native.Mathlib.Omega.{arith}
use mathlib.Core.Path.{◌≡◌, refl, ap, ◌∙◌}
use Rattle.lists.specs.Tab.{times, times_none, times_more}
use Rattle.places.specs.Places.{perms4, full_shifts}
use Rattle.fc4.specs.Mean24.{mean24}
use Rattle.acoustic.specs.Acoustic.{leveled}
use Rattle.acoustic.proofs.fourth_full.full_levels.Goals as goal

pub loop-t-init : goal.loop-t-init
loop-t-init c = (omega arith, refl, refl, refl, times_none _ _)

pub full_level-requires : goal.full_level-requires
full_level-requires c = let l = c.loop-t in rw (l.invariant.1, l.invariant.2, l.invariant.3) c.requires

pub loop-t-preserved : goal.loop-t-preserved
loop-t-preserved c =
    let l = c.loop-t in
    (omega arith, c.full_level.auto.fc4 ∙ l.invariant.1, c.full_level.auto.done ∙ l.invariant.2, c.full_level.auto.drift ∙ l.invariant.3, times_more l.t _ _ l.invariant.4 c.full_level.ensures)

pub returns : goal.returns
returns c =
    let a = c.args in
    let l = c.loop-t in
    let e : l.t ≡ a.level = omega (arith, c.loop-t-test.false, l.invariant.0) in
    l.invariant.4 ∙ ap (λ k. times k (λ _. leveled mean24 (full_shifts a.n) 3 perms4) a.fc4.now) e
