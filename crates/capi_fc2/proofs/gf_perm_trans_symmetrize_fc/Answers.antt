use Rattle.tables.specs.Numbered.{by_number}
use Rattle.capi_fc2.proofs.gf_perm_trans_symmetrize_fc.Goals as goal

pub returns : goal.returns
returns c = by_number c.perm_trans_symmetrize_fc-a.ensures c.number.ensures
