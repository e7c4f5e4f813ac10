use Prim.Native.Nat.{ℕ, ◌<◌}
use mathlib.Core.Path.{◌≡◌}
use lib.ListN.{length, get_or}
use lib.Ieee.{nan, binary64, div, of_bits}
use Rattle.fc3.proofs.means.sixths.Given as goal

abbrev pub invariant-loop-k : goal.invariant-loop-k
invariant-loop-k l =
    (length l.r ≡ 27) × ((j : ℕ) → j < l.k → get_or l.r j nan ≡ div binary64 (get_or l.v j nan) (of_bits binary64 0x4018_0000_0000_0000))
