use Rattle.drift.proofs.report_at.Goals as goal

pub returns : goal.returns
returns c =
    rw (c.column_of-3.ensures, c.column_of-2.ensures, c.row_of.ensures, c.column_of.ensures, c.atom_of-atom.ensures, c.along_of-along.ensures, c.row_of-line.ensures)
