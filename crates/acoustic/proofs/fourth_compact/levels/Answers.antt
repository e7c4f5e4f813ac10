use native.Mathlib.Omega.{arith}
use mathlib.Core.Path.{◌≡◌, refl, ap, ◌∙◌}
use Rattle.lists.specs.Tab.{times, times_none, times_more}
use Rattle.tables.specs.Compact.{ShiftTables, shifts_of, given}
use Rattle.places.specs.Places.{perms4}
use Rattle.fc4.specs.Mean24.{mean24}
use Rattle.acoustic.specs.Acoustic.{leveled}
use Rattle.acoustic.proofs.fourth_compact.levels.Goals as goal

pub loop-t-init : goal.loop-t-init
loop-t-init c = (omega arith, refl, refl, refl, times_none _ _)

pub level_pass-requires : goal.level_pass-requires
level_pass-requires c = let l = c.loop-t in rw (l.invariant.1, l.invariant.2, l.invariant.3) c.requires

pub loop-t-preserved : goal.loop-t-preserved
loop-t-preserved c =
    let l = c.loop-t in
    (omega arith, c.level_pass.auto.fc4 ∙ l.invariant.1, c.level_pass.auto.done ∙ l.invariant.2, c.level_pass.auto.drift ∙ l.invariant.3, times_more l.t _ _ l.invariant.4 c.level_pass.ensures)

pub returns : goal.returns
returns c =
    let a = c.args in
    let T : ShiftTables = given a.tables.now in
    let l = c.loop-t in
    let e : l.t ≡ a.level = omega (arith, c.loop-t-test.false, l.invariant.0) in
    l.invariant.4 ∙ ap (λ k. times k (λ _. leveled mean24 (shifts_of T) 3 perms4) a.fc4.now) e
