use Rattle.tables.specs.Numbered.{by-number-with}
use Rattle.capi_fc4.proofs.gf_set_permutation_symmetry_compact_fc4.Goals as goal

pub returns : goal.returns
returns c = by-number-with c.set_permutation_symmetry_compact_fc4-a.ensures c.number.ensures
