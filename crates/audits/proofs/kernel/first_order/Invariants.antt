use Prim.Native.Nat.{ℕ, ◌<◌}
use mathlib.Core.Path.{◌≡◌}
use mathlib.Core.Bool.{false}
use Rattle.audits.specs.Kernel.{another}
use Rattle.audits.proofs.kernel.first_order.Given as goal

abbrev pub invariant-loop-i : goal.invariant-loop-i
invariant-loop-i l = (j : ℕ) → j < l.i → another l.width l.bs l.t l.fc l.b l.k j ≡ false
