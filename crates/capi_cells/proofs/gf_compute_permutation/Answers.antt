use mathlib.Core.Path.{sym, ◌∙◌}
use lib.ListN.{length}
use Rattle.capi_cells.specs.Cells.{cell_and-two, matched, above, wrong}
use Rattle.capi_cells.proofs.gf_compute_permutation.Goals as goal

pub cell_of-cell-requires : goal.cell_of-cell-requires
cell_of-cell-requires c =
    let a = c.args in
    (cell_and-two (length a.lattice.now) (length a.periodic.now) (length a.pair.now) (sym c.call_fits.ensures ∙ c.if-call_fits.true)).0

pub tell-requires : goal.tell-requires
tell-requires c =
    let a = c.args in
    (cell_and-two (length a.lattice.now) (length a.periodic.now) (length a.pair.now) (sym c.call_fits.ensures ∙ c.if-call_fits.true)).1

pub returns-then-call_fits : goal.returns-then-call_fits
returns-then-call_fits c =
    let a = c.args in
    matched a.rot_atom.now a.lattice.now a.symprec a.periodic.now a.pos.now a.rot_pos.now a.pair.now a.num_pos _ _ _ _ _
    c.compute_permutation-a.ensures c.tell.ensures c.matching_number.ensures (sym c.call_fits.ensures ∙ c.if-call_fits.true) c.cell_of-cell.ensures

pub returns-then-num_pos-gt-LIMIT2 : goal.returns-then-num_pos-gt-LIMIT2
returns-then-num_pos-gt-LIMIT2 c =
    let a = c.args in
    above a.rot_atom.now a.lattice.now a.symprec a.periodic.now a.pos.now a.rot_pos.now a.pair.now a.num_pos (sym c.call_fits.ensures ∙ c.if-call_fits.false) c.if-num_pos-gt-LIMIT2.true

pub returns : goal.returns
returns c =
    let a = c.args in
    wrong a.rot_atom.now a.lattice.now a.symprec a.periodic.now a.pos.now a.rot_pos.now a.pair.now a.num_pos (sym c.call_fits.ensures ∙ c.if-call_fits.false) c.if-num_pos-gt-LIMIT2.false
