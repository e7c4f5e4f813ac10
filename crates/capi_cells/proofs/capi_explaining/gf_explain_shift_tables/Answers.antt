use Rattle.tables.specs.Compact.{ShiftTables, shift_tables}
use Rattle.capi_cells.specs.Explained.{call_wrong, call_told}
use Rattle.capi_cells.proofs.capi_explaining.gf_explain_shift_tables.Goals as goal

pub returns-then-place-ne5 : goal.returns-then-place-ne5
returns-then-place-ne5 c =
    let a = c.args in
    let T : ShiftTables = shift_tables a.p2s.now a.s2pp.now a.nsym_list.now a.perms.now a.n_satom a.n_patom a.num_trans in
    call_wrong T a.place.now c.if-place-ne5.true

pub returns : goal.returns
returns c =
    let a = c.args in
    let T : ShiftTables = shift_tables a.p2s.now a.s2pp.now a.nsym_list.now a.perms.now a.n_satom a.n_patom a.num_trans in
    call_told T a.place.now c.if-place-ne5.false c.explain_shift_tables-e.ensures c.put.ensures
