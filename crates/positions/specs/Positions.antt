-- The table of direction addresses over the 24 permutations of four legs and the 81 positions of a block, and its rule. Assumes nothing.
use Rattle.std.specs.Prelude.{◌≡◌, ℕ, ◌+◌, ◌*◌, ◌/◌, ◌%◌, ◌<◌, List, [], length}
use Rattle.std.proofs.Math.Path.{refl, ap, ap₂}
use Rattle.std.proofs.Common.{◌∙◌, arith}
use Rattle.std.proofs.Math.ListN.{get_or}
use Rattle.lists.specs.Tab.{tab, get_or-tab}
use Rattle.lists.specs.Elements.{all-at}
use Rattle.lists.specs.Digits.{times_power, quotient, remainder}
use Rattle.lists.specs.Members.{in_all}
use Rattle.places.specs.Permutations.{Permutation, perms4, twenty_four_group}
use Rattle.orbits.specs.Blockwise.{in_block}
use Rattle.orbits.specs.Transposed.{permuted_is_below}
use Rattle.blocks.specs.Permuted.{permuted}

-- permutation s of the 24
unfoldable pub permutation_at : ℕ → List ℕ
unfolding perms4
permutation_at s = get_or perms4 s []

-- the position of the directions of position k in permutation s, at entry s * 81 + k
unfoldable pub entry_of : ℕ → ℕ
unfolding permutation_at permuted
entry_of i = permuted 3 (permutation_at (i / 81)) (i % 81)

unfoldable pub address_table : List ℕ
unfolding entry_of
address_table = tab 1944 entry_of

pub in81 : in_block 3 ≡ 81
unfolding in_block times_power
in81 = refl

pub is_permutation_lem : (s : ℕ) → s < 24 → Permutation 3 (permutation_at s)
unfolding permutation_at
is_permutation_lem s h = all-at (Permutation 3) perms4 s [] (in_all (Permutation 3) perms4 twenty_four_group.each) (rw count h)
  where
    count : length perms4 ≡ 24
    count = unfold perms4 in refl

pub permuted_in : (s k : ℕ) → s < 24 → k < 81 → permuted 3 (permutation_at s) k < 81
permuted_in s k hs hk = rw in81 at (permuted_is_below 3 (permutation_at s) k (is_permutation_lem s hs) (rw in81 hk))

-- the rule at each entry
module _ (t : List ℕ) (e : t ≡ address_table) (s k : ℕ) (hs : s < 24) (hk : k < 81) where
  pub at_entry : get_or t (s * 81 + k) 0 ≡ permuted 3 (permutation_at s) k
  unfolding address_table entry_of
  at_entry =
      ap (λ t. get_or t (s * 81 + k) 0) e ∙ get_or-tab 1944 entry_of (s * 81 + k) 0 (omega arith)
      ∙ ap₂ (λ s k. permuted 3 (permutation_at s) k) (quotient 81 s k hk) (remainder 81 s k hk)
