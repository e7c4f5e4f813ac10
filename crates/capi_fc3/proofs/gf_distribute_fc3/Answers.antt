use Rattle.tables.specs.Numbered.{by_number}
use Rattle.capi_fc3.proofs.gf_distribute_fc3.Goals as goal

pub returns : goal.returns
returns c = by_number c.distribute_fc3-a.ensures c.number.ensures
