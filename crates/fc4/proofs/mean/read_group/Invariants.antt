use Prim.Native.Nat.{ℕ, ◌<◌}
use mathlib.Core.Path.{◌≡◌}
use mathlib.Core.List.{[]}
use lib.ListN.{length, get_or}
use Rattle.blocks.specs.Block.{block}
use Rattle.fc4.proofs.mean.read_group.Given as goal

abbrev pub invariant-loop-s : goal.invariant-loop-s
invariant-loop-s l =
    (length l.g ≡ 24) × ((j : ℕ) → j < l.s → get_or l.g j [] ≡ block 81 (get_or l.bs j 0) l.fc4)
