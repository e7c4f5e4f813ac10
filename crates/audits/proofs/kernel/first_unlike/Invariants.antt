use Prim.Native.Nat.{ℕ, ◌<◌}
use mathlib.Core.Path.{◌≡◌}
use mathlib.Core.Bool.{false}
use Rattle.audits.specs.Kernel.{another}
use Rattle.audits.proofs.kernel.first_unlike.Given as goal

abbrev pub invariant-loop-k : goal.invariant-loop-k
invariant-loop-k l = (j : ℕ) → j < l.k → another l.width l.bs l.t l.fc l.b j l.i ≡ false
