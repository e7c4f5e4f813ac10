use Prim.Native.Nat.{◌+◌, ◌-◌}
use mathlib.Core.Path.{◌≡◌}
use Rattle.lists.specs.Tab.{times}
use Rattle.fc3.specs.FullLoops.{group_at}
use Rattle.fc3.proofs.full.line_rising.Given as goal

abbrev pub invariant-loop-c : goal.invariant-loop-c
invariant-loop-c l =
    l.fc3 ≡ times (l.c - (l.b.0 + 1)) (λ i. group_at l.num_atom l.a.0 l.b.0 (l.b.0 + 1 + i)) l.initial.fc3
