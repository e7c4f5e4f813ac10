use Prim.Native.Nat.{ℕ, ◌≤◌, ◌<◌, ◌-◌}
use mathlib.Core.Path.{◌≡◌}
use lib.ListN.{length, get_or}
use lib.Ieee.{nan}
use Rattle.lists.specs.Tab.{times}
use Rattle.blocks.specs.Block.{put_block}
use Rattle.fc4.specs.Spread.{made_of}
use Rattle.fc4.proofs.spread.put_blocks.Given as goal

abbrev pub invariant-loop-k : goal.invariant-loop-k
invariant-loop-k l =
    (length l.block ≡ 81) × ((j : ℕ) → j < l.k → get_or l.block j nan ≡ get_or l.v (get_or l.m j 0) nan)

abbrev pub invariant-loop-s : goal.invariant-loop-s
invariant-loop-s l =
    (l.s ≤ 24) × (l.fc4 ≡ times l.s (λ s. put_block 81 (get_or l.bs s 0) (made_of l.bs l.v (get_or l.bs s 0))) l.initial.fc4)

abbrev pub decreases-loop-s : goal.decreases-loop-s
decreases-loop-s l = 24 - l.s
