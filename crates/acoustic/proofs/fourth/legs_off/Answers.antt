use native.Mathlib.Omega.{arith}
use mathlib.Core.Path.{◌≡◌, refl, ap, ◌∙◌}
use Rattle.lists.specs.Tab.{times, times_none, times_more}
use Rattle.tables.specs.Compact.{ShiftTables, shifts_of, given}
use Rattle.acoustic.specs.Acoustic.{without_drift, without_drifts}
use Rattle.acoustic.proofs.fourth.legs_off.Goals as goal

pub loop-leg-init : goal.loop-leg-init
loop-leg-init c = (omega arith, refl, refl, times_none _ _)

pub leg_off-requires : goal.leg_off-requires
leg_off-requires c = let l = c.loop-leg in (rw (l.invariant.1, l.invariant.2) c.requires, omega arith)

pub loop-leg-preserved : goal.loop-leg-preserved
loop-leg-preserved c = let l = c.loop-leg in (omega arith, c.leg_off.auto.fc4 ∙ l.invariant.1, c.leg_off.auto.drift ∙ l.invariant.2, times_more l.leg _ _ l.invariant.3 c.leg_off.ensures)

pub returns : goal.returns
unfolding without_drifts
returns c =
    let a = c.args in
    let T : ShiftTables = given a.tables.now in
    let l = c.loop-leg in
    let e : l.leg ≡ 4 = omega (arith, c.loop-leg-test.false, l.invariant.0) in
    l.invariant.3 ∙ ap (λ k. times k (without_drift (shifts_of T) 3) a.fc4.now) e
