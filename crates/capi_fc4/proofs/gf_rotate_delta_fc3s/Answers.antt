use Rattle.tables.specs.Numbered.{by-number-with}
use Rattle.capi_fc4.proofs.gf_rotate_delta_fc3s.Goals as goal

pub returns : goal.returns
returns c = by-number-with c.rotate_delta_fc3s-a.ensures c.number.ensures
