use Rattle.capi_roll.proofs.gf_is_roll_former.Goals as goal

pub returns : goal.returns
returns c = c.is_roll_former.ensures
