use Prim.Native.Nat.{◌+◌, ◌-◌, ◌≤◌}
use mathlib.Core.Path.{◌≡◌}
use lib.ListN.{length, get_or}
use mathlib.Core.List.{[]}
use Rattle.lists.specs.Tab.{times}
use Rattle.lines.specs.Lines.{less_at}
use Rattle.fc2.proofs.columns.take8.Given as goal

abbrev pub invariant-loop-c : goal.invariant-loop-c
invariant-loop-c l = (l.c ≤ 8) × (length l.fc ≡ length l.initial.fc) × (l.fc ≡ times l.c (λ k. less_at (get_or l.d k []) (l.b + k)) l.initial.fc)

abbrev pub decreases-loop-c : goal.decreases-loop-c
decreases-loop-c l = 8 - l.c
