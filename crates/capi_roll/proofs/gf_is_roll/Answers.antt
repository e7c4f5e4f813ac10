use Rattle.capi_roll.proofs.gf_is_roll.Goals as goal

pub returns : goal.returns
returns c = c.is_roll.ensures
