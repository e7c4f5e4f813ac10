use Rattle.tables.specs.Numbered.{by_number}
use Rattle.capi_reports.proofs.full.gf_compact_to_full_fc3.Goals as goal

pub returns : goal.returns
returns c = by_number c.compact_to_full_fc3-a.ensures c.number.ensures
