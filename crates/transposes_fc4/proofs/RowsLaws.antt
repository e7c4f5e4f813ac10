-- The pairs of numbers of a block that the table of direction addresses gives for two legs are those that change places where these legs do. Assumes nothing.
use Rattle.std.specs.Prelude.{◌≡◌, ℕ, ◌<◌, List, get_or}
use borrow.Author.Tests.{eqb-true}
use Rattle.lists.specs.Tab.{get_or-tab}
use Rattle.lists.specs.Tests.{every-at}
use Rattle.blocks.specs.Permuted.{permuted}
use Rattle.transposes_fc4.specs.Pairs.{from_pairs, Inside54}
use Rattle.positions.specs.Positions.{permutation_at, permuted_in}
use Rattle.orbits.specs.Exchanging.{exchanging}
use Rattle.orbits.specs.Exchanging.{exchanging_permutes, exchanging-twice}
use Rattle.transposes_fc4.specs.Rows.{first_pairs, pair_row, taken_to, first_in_lem, exchanged_at, two-rows, first_two_lem}
use Rattle.transposes_fc4.specs.Loops.{Swap}

module _ (a b : ℕ) (ha : a < 4) (hb : b < 4) (n : a ≡ b → ⊥) where
  pub row_below : pair_row a b < 24
  row_below = (two-rows a b ha hb n).0

  pub exchanges_legs : (k : ℕ) → k < 81 → from_pairs (taken_to (pair_row a b)) 27 k ≡ permuted 3 (exchanging 3 a b) k
  unfolding exchanged_at
  exchanges_legs k h = eqb-true _ _ (every-at 81 (exchanged_at (pair_row a b) a b) (two-rows a b ha hb n).1 k h)

  pub pairs_in : Inside54 (taken_to (pair_row a b))
  unfolding taken_to
  pairs_in k h = rw (get_or-tab 54 (λ n. permuted 3 (permutation_at (pair_row a b)) (get_or first_pairs n 0)) k 0 h) (permuted_in (pair_row a b) (get_or first_pairs k 0) row_below (first_in_lem k h))

-- two legs
pub two_legs : (a b : ℕ) → a < 4 → b < 4 → (a ≡ b → ⊥) → {o m : List ℕ} → o ≡ exchanging 3 a b → m ≡ taken_to (pair_row a b) → Swap o m
two_legs a b ha hb n {o} {m} e f =
    rw (e, f) (record { is_order = exchanging_permutes 3 a b ha hb; twice = exchanging-twice 3 a b ha hb; runs = first_two_lem a b; inside = pairs_in a b ha hb n; exchanges = exchanges_legs a b ha hb n })
