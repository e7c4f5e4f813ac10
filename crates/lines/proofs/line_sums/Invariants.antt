use Rattle.lines.specs.Sums3x3.{more}
use Rattle.blocks.specs.Block.{block}
use Rattle.lists.specs.Tab.{times}
use mathlib.Core.Path.{◌≡◌}
use Prim.Native.Nat.{◌+◌, ◌*◌}
use Rattle.lines.proofs.line_sums.Given as goal

abbrev pub invariant-loop-k : goal.invariant-loop-k
invariant-loop-k l = l.sums ≡ times l.k (λ m t. more t (block 9 (l.first + m * l.step) l.fc)) l.initial.sums
