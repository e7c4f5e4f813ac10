-- The refusals of replace_block_fc2 in their order, by values: two atoms, every number 0.0, and a block of 0.1, which is off the grid. Assumes nothing.
use Rattle.std.specs.Prelude.{Err, Ok, ◌≡◌, refl, List, [], replicate, Float}
use Rattle.std.specs.Float.{binary64}
use Rattle.std.specs.Float.Ieee.{of_bits}
use Rattle.lists.specs.Tests.{every}
use Rattle.lists.specs.Tab.{tab, tab_from}
use Rattle.lists.specs.Floats.{plus_zero}
use Rattle.tables.specs.declared.Refusal.TheVariants.{CountAboveLimit, WrongLength, IndexOutOfRange, OffGrid}
use Rattle.tables.specs.Lengths.{set_length}
use Rattle.tables.specs.Full.{judged_full}
use Rattle.blocks.specs.Block.{block}
use Rattle.grid.specs.Grid.{on_grid, nine_on_grid}
use Rattle.row_sums.specs.RowSums.{judged_block, judged_replace}

abbrev zeros : List Float
zeros = replicate 36 plus_zero

abbrev tenth : List Float
tenth = replicate 9 (of_bits binary64 0x3fb9_9999_9999_999a)

pub in_order_lem : (judged_replace [] 17 tenth 2 0 1025 ≡ Err CountAboveLimit) × (judged_replace zeros 17 tenth 2 0 2 ≡ Err WrongLength)
    × (judged_replace zeros 18 tenth 2 0 2 ≡ Err IndexOutOfRange) × (judged_replace zeros 18 tenth 0 2 2 ≡ Err IndexOutOfRange)
    × (judged_replace zeros 18 tenth 0 1 2 ≡ Err OffGrid) × (judged_replace zeros 18 (replicate 9 plus_zero) 0 1 2 ≡ Ok tt)
unfolding judged_replace judged_full judged_block set_length block tab tab_from nine_on_grid on_grid every of_bits
in_order_lem = (refl, refl, refl, refl, refl, refl)
