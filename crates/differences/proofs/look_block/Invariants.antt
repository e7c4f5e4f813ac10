use mathlib.Core.Path.{◌≡◌}
use Rattle.lists.specs.Tab.{times}
use Rattle.differences.specs.Laws.{look_place}
use Rattle.differences.proofs.look_block.Given as goal

abbrev pub invariant-loop-k : goal.invariant-loop-k
invariant-loop-k l = l.seen ≡ times l.k (look_place l.width l.bs l.t l.fc l.b) l.initial.seen
