use Rattle.drift.proofs.third.report_at.Goals as goal

pub column_of-second-requires : goal.column_of-second-requires
column_of-second-requires c = c.requires

pub row_of-firsts-requires : goal.row_of-firsts-requires
row_of-firsts-requires c = c.requires

pub column_of-first-requires : goal.column_of-first-requires
column_of-first-requires c = c.requires

pub row_of-requires : goal.row_of-requires
row_of-requires c = c.requires

pub returns : goal.returns
returns c =
    rw (c.column_of-3.ensures, c.row_of-3.ensures, c.column_of-2.ensures, c.row_of-2.ensures, c.column_of.ensures, c.leg_of-leg.ensures, c.row_of.ensures, c.column_of-first.ensures, c.row_of-firsts.ensures, c.column_of-second.ensures, c.row_of-lines.ensures)
