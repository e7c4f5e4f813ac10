use Rattle.capi_roll.specs.Told.{set_told, set-slot}
use Rattle.capi_roll.proofs.gf_stands_now.Goals as goal

pub returns-then-slot-eq1 : goal.returns-then-slot-eq1
returns-then-slot-eq1 c =
    let a = c.args in
    set_told a.lent.now a.count a.set a.slot.now c.stands_now-a.ensures c.if-slot-eq1.true c.name_set.ensures

pub returns : goal.returns
returns c =
    let a = c.args in
    set-slot a.lent.now a.count a.set a.slot.now c.stands_now-a.ensures c.if-slot-eq1.false c.standing_number.ensures c.seven_or_two.ensures
