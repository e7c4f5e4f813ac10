use Rattle.tables.specs.Numbered.{by-number-with}
use Rattle.capi_fc3.proofs.gf_rotate_delta_fc2s.Goals as goal

pub returns : goal.returns
returns c = by-number-with c.rotate_delta_fc2s-a.ensures c.number.ensures
