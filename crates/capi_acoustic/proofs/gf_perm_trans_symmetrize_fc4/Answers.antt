use Rattle.acoustic.specs.Numbered.{by-number-both}
use Rattle.capi_acoustic.proofs.gf_perm_trans_symmetrize_fc4.Goals as goal

pub returns : goal.returns
returns c = by-number-both c.perm_trans_symmetrize_fc4-a.ensures c.number.ensures
