use Rattle.tables.specs.Numbered.{by_number}
use Rattle.capi_fc2.proofs.sums.gf_row_sums_fc2.Goals as goal

pub returns : goal.returns
returns c = by_number c.row_sums_fc2-a.ensures c.number.ensures
