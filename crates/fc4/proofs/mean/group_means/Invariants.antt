use mathlib.Core.Path.{◌≡◌}
use lib.ListN.{length, replicate}
use lib.Ieee.{binary64, of_bits}
use Rattle.lists.specs.Tab.{times}
use Rattle.blocks.specs.Block.{put_block}
use Rattle.fc4.specs.Mean.{group_of, nine_sums, divided}
use Rattle.fc4.proofs.mean.group_means.Given as goal

abbrev pub invariant-loop-h : goal.invariant-loop-h
invariant-loop-h l =
    (length l.v ≡ 81) × (l.v ≡ times l.h (λ h. put_block 9 h (divided (nine_sums (group_of l.fc4 l.bs) h))) (replicate 81 (of_bits binary64 0)))
