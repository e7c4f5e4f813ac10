use Prim.Native.Nat.{suc, ◌-◌, ◌≤◌}
use mathlib.Core.Path.{◌≡◌}
use mathlib.Core.List.{List}
use lib.Ieee.{Float}
use Rattle.lists.specs.Tab.{times}
use Rattle.blocks.specs.Block.{block}
use Rattle.tables.specs.Compact.{shifts_of, given}
use Rattle.rotations.specs.Rotation.{coefficients}
use Rattle.crystal.specs.Laws.{block_seen}
use Rattle.crystal.proofs.any_order.look_operation.Given as goal

abbrev pub invariant-loop-b : goal.invariant-loop-b
invariant-loop-b g l =
    (l.b ≤ l.count) × ((carts : List Float) → l.c ≡ coefficients (block 9 l.r carts) (suc g.O.Order.RANK) g.row.N
    → l.seen ≡ times l.b (block_seen (shifts_of (given l.tables)) g.O.Order.RANK carts l.operations l.fc g.row.N l.r) l.initial.seen)

abbrev pub decreases-loop-b : goal.decreases-loop-b
decreases-loop-b g l = l.count - l.b
