use Rattle.roll.specs.HoldingLaws.{is_framed}
use Rattle.capi_roll.specs.Told.{read-within, read_told}
use Rattle.capi_roll.proofs.gf_read_roll.Goals as goal

pub tell_in-requires : goal.tell_in-requires
tell_in-requires c = read-within _ _ _ (is_framed _) c.read_at-a.ensures

pub returns : goal.returns
returns c =
    let a = c.args in
    read_told a.lent.now a.count a.at a.slots.now c.roll_bytes-b.ensures c.tell_in.ensures c.read_at-a.ensures
