use Rattle.tables.specs.Numbered.{by-number-with}
use Rattle.capi_acoustic.proofs.gf_perm_trans_symmetrize_fc3.Goals as goal

pub returns : goal.returns
returns c = by-number-with c.perm_trans_symmetrize_fc3-a.ensures c.number.ensures
