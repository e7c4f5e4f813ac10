-- What `Directions` says of the table, at the last permutation. Assumes nothing.
use Rattle.std.specs.Prelude.{◌≡◌, ℕ, ◌<◌}
use Rattle.std.proofs.Common.{lit<}
use Rattle.places.specs.Permutations.{perms4}
use Rattle.positions.specs.Positions.{permutation_at}
use Rattle.positions.specs.Directions.{address_at, address4, entry_is_address}

-- the rule at the last permutation, which turns the four directions round
pub last_entry : (a b c d : ℕ) → a < 3 → b < 3 → c < 3 → d < 3 → address_at 23 (address4 a b c d) ≡ address4 d c b a
unfolding permutation_at perms4
last_entry a b c d ha hb hc hd = entry_is_address 23 a b c d (lit< tt) ha hb hc hd
