use Rattle.tables.specs.Numbered.{by-number-with}
use Rattle.capi_fc2.proofs.gf_perm_trans_symmetrize_compact_fc.Goals as goal

pub returns : goal.returns
returns c = by-number-with c.perm_trans_symmetrize_compact_fc-a.ensures c.number.ensures
