use native.Mathlib.Omega.{arith}
use Rattle.drift.specs.Lines.{first_nine}
use Rattle.drift.proofs.third.first_nine.Goals as goal

pub row_of-requires : goal.row_of-requires
row_of-requires c = c.requires.0

pub column_of-requires : goal.column_of-requires
column_of-requires c = c.requires.0

pub overflow_mul-step : goal.overflow_mul-step
overflow_mul-step c = let g = c.requires.1 in omega arith

pub index_of-block-requires : goal.index_of-block-requires
index_of-block-requires c =
    let g = c.requires.2 in
    rw (c.column_of.ensures, c.row_of.ensures, c.row_of-pair.ensures) (omega (arith, g))

pub index_of-requires : goal.index_of-requires
index_of-requires c =
    let g = c.requires.2 in
    rw (c.column_of-2.ensures, c.index_of-block.ensures, c.column_of.ensures, c.row_of.ensures, c.row_of-pair.ensures) (omega (arith, g))

pub returns : goal.returns
unfolding first_nine
returns c = rw (c.index_of.ensures, c.column_of-2.ensures, c.index_of-block.ensures, c.column_of.ensures, c.row_of.ensures, c.row_of-pair.ensures)
