use mir.Syntax.{w64}
use mir.ValLaws.{to_z-of_z}
use Rattle.tables.specs.Compact.{shift_tables}
use Rattle.transposes_fc4.specs.Fc4.{transpose_compact_fc4}
use Rattle.tables.specs.Numbered.{by-number-at}
use Rattle.capi_fc4.proofs.gf_transpose_compact_fc4.Goals as goal

pub returns : goal.returns
returns c =
    let a = c.args in
    let T = shift_tables a.p2s.now a.s2pp.now a.nsym_list.now a.perms.now a.n_satom a.n_patom a.num_trans in
    by-number-at (transpose_compact_fc4 a.fc4.now T a.done.now) (to_z-of_z w64 a.t_type c.ranges.t_type) c.transpose_compact_fc4-a.ensures
    c.number.ensures
