use Rattle.tables.specs.Numbered.{by-number-with}
use Rattle.capi_fc2.proofs.gf_set_index_permutation_symmetry_compact_fc.Goals as goal

pub returns : goal.returns
returns c = by-number-with c.set_index_permutation_symmetry_compact_fc-a.ensures c.number.ensures
