use Rattle.lines.specs.Lines.{less_at}
use Rattle.lists.specs.Tab.{times}
use mathlib.Core.Path.{◌≡◌}
use lib.ListN.{length}
use Prim.Native.Nat.{◌+◌, ◌*◌}
use Rattle.lines.proofs.take_drift.Given as goal

abbrev pub invariant-loop-k : goal.invariant-loop-k
invariant-loop-k l = (length l.fc ≡ length l.initial.fc) × (l.fc ≡ times l.k (λ m. less_at l.d (l.first + m * l.step)) l.initial.fc)
