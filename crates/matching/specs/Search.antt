-- What the functions that fill the slots note of distances that are no number, as their loops run; proofs/SearchLaws: it is the first pair. Assumes nothing.
use Rattle.std.specs.Prelude.{◌≡◌, Bool, true, false, List, ℤ, length}
use Rattle.std.proofs.Math.Bool.{cond}
use Prim.Native.Nat.{ℕ, ◌≤◌, ◌<◌}
use Rattle.std.proofs.Math.Dec.{ltb}
use Rattle.lists.specs.Tab.{times}
use Rattle.distances.specs.declared.Distance.{Distance}
use Rattle.distances.specs.declared.Distance.TheVariants.{Near, Far, NoNumber}
use Rattle.distances.specs.Near.{near_by}
use Rattle.matching.specs.declared.cells.Pair.{Pair}
use Rattle.matching.specs.Matching.{is_filled, match_one, none_at, has_none}

-- ---- definitions, as the loops run

-- a filled slot is not tried, and counts as far
abbrev pub tried_as : ℤ → Distance → Distance
tried_as slot d = cond (is_filled slot) Far d

abbrev pub earlier_of : ℕ → ℕ → ℕ → ℕ
earlier_of none n j = cond (ltb none n) none j

abbrev pub noted_by : Distance → ℕ → ℕ → ℕ → ℕ
noted_by Near none n j = none
noted_by Far none n j = none
noted_by NoNumber none n j = earlier_of none n j

-- the first tried slot whose distance is no number; the number of slots if there is none
unfoldable pub noted_at : (ℕ → ℕ → Distance) → List ℤ → ℕ → ℕ
noted_at dist slots i = cond (has_none dist slots i) (none_at dist slots i) (length slots)

abbrev pub first_pair : Pair → ℕ → ℕ → ℕ → Pair
first_pair p n i s = cond (ltb p.position n) p (cond (ltb s n) (record { position = i; slot = s }) p)

abbrev pub no_pair : ℕ → Pair
no_pair n = record { position = n; slot = 0 }

unfoldable pub pair_after : (ℕ → ℕ → Distance) → List ℤ → ℕ → Pair
pair_after dist slots m = times m (λ k p. first_pair p (length slots) k (noted_at dist (times k (match_one (near_by dist)) slots) k)) (no_pair (length slots))

-- ---- p is the first number below j that passes, or n if there is none

pub record First (f : ℕ → Bool) (n j p : ℕ) : Type 0 where
  pub bound : p ≤ n
  pub known : p < n → p < j
  pub before : (k : ℕ) → k < j → k < p → f k ≡ false
  pub here : p < n → f p ≡ true
