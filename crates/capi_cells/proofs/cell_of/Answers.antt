use Rattle.capi_cells.proofs.cell_of.Goals as goal

pub returns : goal.returns
returns c = rw (c.flags-f.ensures, c.nine-l.ensures)
