use Rattle.tables.specs.Numbered.{by-number-with}
use Rattle.capi_fc2.proofs.gf_distribute_fc2.Goals as goal

pub returns : goal.returns
returns c = by-number-with c.distribute_fc2-a.ensures c.number.ensures
