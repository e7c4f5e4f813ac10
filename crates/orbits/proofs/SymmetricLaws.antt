-- The leader of some addresses. Assumes nothing.
use Rattle.std.specs.Prelude.{◌≡◌, ℕ, ◌/◌, ◌≤◌}
use Rattle.std.proofs.Common.{◌∙◌, eqb-true, eq-eqb}
use mathlib.Core.List.{List, map}
use Rattle.std.proofs.Math.Dec.{eqb}
use Rattle.lists.specs.Members.{In, keep, in_keep, keep_in, in_map, least_le, greatest_le}
use Rattle.orbits.specs.Symmetric.{first_block, leader, leader-kept}

-- It is one of the addresses, none of them lies in an earlier block, and none in its block is later.
module _ (c : ℕ) (qs : List ℕ) (a : ℕ) (h : In a qs) where
  pub leader_in : In (leader c qs) qs
  leader_in = (keep_in (λ q. eqb (q / c) (first_block c qs)) qs (leader c qs) (leader-kept c qs a h)).0

  pub leader-block : leader c qs / c ≡ first_block c qs
  leader-block = eqb-true (leader c qs / c) (first_block c qs) (keep_in (λ q. eqb (q / c) (first_block c qs)) qs (leader c qs) (leader-kept c qs a h)).1

  pub leader-first : (q : ℕ) → In q qs → leader c qs / c ≤ q / c
  leader-first q i = rw leader-block (unfold first_block in least_le (map (λ q. q / c) qs) (q / c) (in_map (λ q. q / c) qs q i))

  pub leader-last : (q : ℕ) → In q qs → q / c ≡ leader c qs / c → q ≤ leader c qs
  unfolding leader
  leader-last q i e =
      greatest_le (keep (λ q. eqb (q / c) (first_block c qs)) qs) q (in_keep (λ q. eqb (q / c) (first_block c qs)) qs q i (eq-eqb (q / c) (first_block c qs) (e ∙ leader-block)))
