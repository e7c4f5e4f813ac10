use Prim.Native.Nat.{ℕ, ◌≤◌, ◌<◌, ◌-◌}
use lib.ListN.{length, get_or}
use lib.Ieee.{nan}
use mathlib.Core.Path.{◌≡◌}
use Rattle.lists.proofs.copy_all.Given as goal

abbrev pub invariant-loop-i : goal.invariant-loop-i
invariant-loop-i l = ((k : ℕ) → k < l.i → get_or l.dst k nan ≡ get_or l.src k nan)
