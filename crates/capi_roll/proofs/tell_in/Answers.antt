use Rattle.capi_roll.specs.Told.{told-six, told_slots}
use Rattle.capi_roll.proofs.tell_in.Goals as goal

pub tell-requires : goal.tell-requires
tell-requires c = (c.if-slots-eq6.true, c.requires)

pub returns-then-slots-eq6 : goal.returns-then-slots-eq6
returns-then-slots-eq6 c =
    let s = c.args in
    told-six s.b.now s.at s.slots.now s.a c.if-slots-eq6.true c.tell.ensures

pub returns : goal.returns
returns c =
    let s = c.args in
    told_slots s.b.now s.at s.slots.now s.a c.if-slots-eq6.false c.item_number.ensures c.seven_or_two.ensures
