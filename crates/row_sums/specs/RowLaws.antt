-- The loop over the atoms makes the sums of a fresh pass: turn i writes the nine sums of atom i. Assumes nothing.
use Rattle.std.specs.Prelude.{List, ℕ, ◌*◌, Float}
use Rattle.blocks.specs.Block.{put_block}
use Rattle.lines.specs.Sums3x3.{zeros}
use Rattle.lines.specs.Lines.{line_sums}
use Rattle.row_sums.specs.RowSums.{flat_sums}

-- turn i of the loop
unfoldable pub row_at : ℕ → List Float → ℕ → List Float → List Float
row_at n set i sums = put_block 9 i (flat_sums (line_sums (i * n) 1 n set zeros)) sums
