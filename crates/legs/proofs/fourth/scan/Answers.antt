use native.Mathlib.Omega.{arith}
use mathlib.Core.Path.{◌≡◌, ap, ◌∙◌}
use Rattle.lists.specs.Tab.{times, times_none, times_more}
use Rattle.tables.specs.Compact.{ShiftTables, shifts_of, given}
use Rattle.audits.specs.FourthScanLaws.{in81}
use Rattle.legs.specs.Laws.{leg_seen}
use Rattle.legs.proofs.SeenLaws.{legs_seen-w}
use Rattle.legs.proofs.fourth.scan.Goals as goal

pub loop-e-init : goal.loop-e-init
loop-e-init c = times_none _ _

pub look_leg-seen-requires : goal.look_leg-seen-requires
look_leg-seen-requires c = let h = c.loop-e-test.true in (c.requires, omega (arith, h))

pub loop-e-preserved : goal.loop-e-preserved
loop-e-preserved c = let l = c.loop-e in times_more l.e _ _ l.invariant c.look_leg-seen.ensures

pub returns : goal.returns
returns c =
    let a = c.args in
    let T : ShiftTables = given a.tables.now in
    let l = c.loop-e in
    let i : l.e ≡ 4 = omega arith in
    legs_seen-w (shifts_of T) 3 a.fc.now 81 in81 (l.invariant ∙ ap (λ k. times k (leg_seen (shifts_of T) 3 a.fc.now 81) c.start-seen.result) i ∙ ap (times 4 (leg_seen (shifts_of T) 3 a.fc.now 81)) c.start-seen.ensures)
