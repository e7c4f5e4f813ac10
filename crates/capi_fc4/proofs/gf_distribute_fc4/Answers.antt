use Rattle.tables.specs.Numbered.{by_number}
use Rattle.capi_fc4.proofs.gf_distribute_fc4.Goals as goal

pub returns : goal.returns
returns c = by_number c.distribute_fc4-a.ensures c.number.ensures
