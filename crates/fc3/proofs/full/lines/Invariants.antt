use Prim.Native.Nat.{◌+◌, ◌-◌}
use mathlib.Core.Path.{◌≡◌}
use Rattle.lists.specs.Tab.{times}
use Rattle.fc3.specs.FullLoops.{line_of}
use Rattle.fc3.proofs.full.lines.Given as goal

abbrev pub invariant-loop-b : goal.invariant-loop-b
invariant-loop-b l =
    l.fc3 ≡ times (l.b - (l.a.0 + 1)) (λ i. line_of l.num_atom l.a.0 (l.a.0 + 1 + i)) l.initial.fc3
