use Rattle.capi_roll.specs.Told.{retire_told, retire_slot, retire_seven}
use Rattle.capi_roll.proofs.gf_retire_all.Goals as goal

pub returns-then-new_count-eq1 : goal.returns-then-new_count-eq1
returns-then-new_count-eq1 c =
    let a = c.args in
    retire_told a.lent.now a.count a.set a.new_count.now c.if-new_count-eq1.true c.retire_all-a.ensures c.report.ensures

pub returns-then-is_roll : goal.returns-then-is_roll
returns-then-is_roll c =
    let a = c.args in
    retire_slot a.lent.now a.count a.set a.new_count.now c.if-new_count-eq1.false c.is_roll.ensures c.if-is_roll.true

pub returns : goal.returns
returns c =
    let a = c.args in
    retire_seven a.lent.now a.count a.set a.new_count.now c.if-new_count-eq1.false c.is_roll.ensures c.if-is_roll.false
