use Rattle.tables.specs.Numbered.{by-number-with}
use Rattle.capi_fc2.proofs.gf_true_transpose_compact_fc2.Goals as goal

pub returns : goal.returns
returns c = by-number-with c.true_transpose_compact_fc2-a.ensures c.number.ensures
