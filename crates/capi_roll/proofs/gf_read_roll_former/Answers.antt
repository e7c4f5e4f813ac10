use Rattle.roll.specs.HoldingLaws.{former-framed}
use Rattle.capi_roll.specs.Told.{read-within, read-told-former}
use Rattle.capi_roll.proofs.gf_read_roll_former.Goals as goal

pub tell_in-requires : goal.tell_in-requires
tell_in-requires c = read-within _ _ _ (former-framed _) c.read_at_former-a.ensures

pub returns : goal.returns
returns c =
    let a = c.args in
    read-told-former a.lent.now a.count a.at a.slots.now c.roll_bytes-b.ensures c.tell_in.ensures c.read_at_former-a.ensures
