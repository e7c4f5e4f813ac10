use mathlib.Core.Path.{◌≡◌}
use Prim.Native.Nat.{◌+◌, ◌*◌}
use Rattle.lists.specs.Tab.{times}
use Rattle.blocks.specs.Block.{block}
use Rattle.tables.specs.Conditions.{index_at}
use Rattle.blocks.specs.Block9.{transposed9}
use Rattle.rotations.specs.Rotation.{rotated}
use Rattle.distribute.specs.Fc2.{add_block}
use Rattle.distribute.proofs.fc2.add_row.Given as goal

abbrev pub invariant-loop-other : goal.invariant-loop-other
invariant-loop-other l =
    l.fc2 ≡ times l.other (λ o. add_block (rotated (transposed9 (block 9 l.s l.r_carts)) 2) (l.todo_first * l.num_pos + o) (l.done_first * l.num_pos + index_at l.permutations (l.s * l.num_pos + o))) l.initial.fc2
