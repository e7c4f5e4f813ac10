use Prim.Native.Nat.{ℕ, ◌<◌}
use mathlib.Core.Path.{◌≡◌}
use lib.ListN.{length, get_or}
use lib.Ieee.{nan, binary64, add}
use Rattle.fc3.proofs.means.plus.Given as goal

abbrev pub invariant-loop-k : goal.invariant-loop-k
invariant-loop-k l =
    (length l.r ≡ 27) × ((j : ℕ) → j < l.k → get_or l.r j nan ≡ add binary64 (get_or l.v j nan) (get_or l.w j nan))
