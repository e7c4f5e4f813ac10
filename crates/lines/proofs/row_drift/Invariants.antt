use Rattle.lines.specs.Lines.{line_drift}
use Rattle.lists.specs.Tab.{times}
use mathlib.Core.Path.{◌≡◌}
use lib.ListN.{length}
use Prim.Native.Nat.{◌*◌}
use Rattle.lines.proofs.row_drift.Given as goal

abbrev pub invariant-loop-i : goal.invariant-loop-i
invariant-loop-i l = (length l.fc ≡ length l.initial.fc) × (l.fc ≡ times l.i (λ k. line_drift (k * l.n) 1 l.n l.inv_n) l.initial.fc)
