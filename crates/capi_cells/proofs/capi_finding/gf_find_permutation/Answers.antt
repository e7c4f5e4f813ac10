use mathlib.Core.Path.{sym, ◌∙◌}
use lib.ListN.{length}
use Rattle.capi_cells.specs.Cells.{nine-and-three}
use Rattle.capi_cells.specs.Finding.{found, above, wrong}
use Rattle.capi_cells.proofs.capi_finding.gf_find_permutation.Goals as goal

pub cell_of-cell-requires : goal.cell_of-cell-requires
cell_of-cell-requires c =
    let a = c.args in
    nine-and-three (length a.lattice.now) (length a.periodic.now) (sym c.cell_fits.ensures ∙ c.if-cell_fits.true)

pub returns-then-cell_fits : goal.returns-then-cell_fits
returns-then-cell_fits c =
    let a = c.args in
    found a.rot_atom.now a.marks.now a.lattice.now a.symprec a.periodic.now a.pos.now a.rot_pos.now a.num_pos _ _ _ _ _
    c.find_permutation-a.ensures c.finding_number.ensures (sym c.cell_fits.ensures ∙ c.if-cell_fits.true) c.cell_of-cell.ensures

pub returns-then-num_pos-gt-LIMIT2 : goal.returns-then-num_pos-gt-LIMIT2
returns-then-num_pos-gt-LIMIT2 c =
    let a = c.args in
    above a.rot_atom.now a.marks.now a.lattice.now a.symprec a.periodic.now a.pos.now a.rot_pos.now a.num_pos (sym c.cell_fits.ensures ∙ c.if-cell_fits.false) c.if-num_pos-gt-LIMIT2.true

pub returns : goal.returns
returns c =
    let a = c.args in
    wrong a.rot_atom.now a.marks.now a.lattice.now a.symprec a.periodic.now a.pos.now a.rot_pos.now a.num_pos (sym c.cell_fits.ensures ∙ c.if-cell_fits.false) c.if-num_pos-gt-LIMIT2.false
