-- The symmetrizers' loop over blocks, as a program runs it: with a done table, or with a test that tells the first blocks of the groups.
-- That it leaves the symmetrized set stands in proofs/GroupLoopLaws.antt. Assumes nothing.
use Rattle.std.specs.Prelude.{◌≡◌, Bool, List, get_or, Float}
use Rattle.std.proofs.Math.Bool.{cond}
use Prim.Native.Nat.{ℕ, ◌≤◌, ◌<◌}
use Rattle.std.proofs.Math.Nat.{le_antisymm}
use native.Mathlib.Omega.{arith}
use Rattle.std.proofs.Math.Dec.{eqb}
use Rattle.std.specs.Float.Ieee.{nan}
use borrow.Author.Tests.{eq-eqb, ne_eqb}
use Rattle.lists.specs.Elements.{All}
use Rattle.lists.specs.Members.{In, all_in, least, least_le, least_in}
use Rattle.tables.specs.Shifts.{Shifts, Laws}
use Rattle.places.specs.Permutations.{Group}
use Rattle.orbits.specs.SymmetrizerLaws.{groups}
use Rattle.orbits.specs.Spread.{set_all, Written, Marked}
use Rattle.orbits.specs.Groups.{group_blocks, mean_block, spread_block}

-- a set and its done table
abbrev pub State : Type 0
State = List Float × List ℕ

-- whether block n is the first of its group: none of the group's blocks is lower
unfoldable pub is_first : ℕ → List (List ℕ) → Shifts → ℕ → Bool
is_first m os S n = eqb (least (group_blocks S m os n)) n

module _ (mean : List Float → Float) (m : ℕ) (os : List (List ℕ)) where
  -- the group of block n worked out and written
  unfoldable pub worked : Shifts → ℕ → List Float → List Float
  unfolding group_blocks mean_block spread_block
  worked S n xs = let bs = group_blocks S m os n in spread_block m os bs (mean_block mean m os bs xs) xs

  -- block n: its group is passed over if the block is marked, otherwise worked out, written and marked
  unfoldable pub marked_visit : Shifts → ℕ → State → State
  unfolding worked
  marked_visit S n s = cond (eqb (get_or s.1 n 0) 0) (worked S n s.0, set_all (group_blocks S m os n) 1 s.1) s

  -- block n, where a test tells the first blocks
  unfoldable pub first_visit : (ℕ → Bool) → Shifts → ℕ → List Float → List Float
  unfolding worked
  first_visit first S n xs = cond (first n) (worked S n xs) xs

  -- a visit with that test
  pub visit-first : (S : Shifts) (n : ℕ) (xs : List Float) → In n (group_blocks S m os n) → All (λ b. n ≤ b) (group_blocks S m os n) → first_visit (is_first m os S) S n xs ≡ worked S n xs
  unfolding first_visit is_first
  visit-first S n xs i a =
      let bs = group_blocks S m os n in
      let e : least bs ≡ n = le_antisymm (least_le bs n i) (all_in (λ b. n ≤ b) bs a (least bs) (least_in bs n i)) in
      rw (eq-eqb (least bs) n e)

  pub visit-later : (S : Shifts) (n b : ℕ) (xs : List Float) → In b (group_blocks S m os n) → b < n → first_visit (is_first m os S) S n xs ≡ xs
  unfolding first_visit is_first
  visit-later S n b xs i h =
      let bs = group_blocks S m os n in
      let l = least_le bs b i in
      rw (ne_eqb (least bs) n (λ e. omega arith))

module _ (mean : List Float → Float) (S : Shifts) (L : Laws S) (m : ℕ) (os : List (List ℕ)) (G : Group m os) (old : List Float) where
  -- with a done table: what holds after n blocks
  pub record Reached (n : ℕ) (s : State) : Type 0 where
    pub written : Written (groups S L m os G) nan mean old n s.0
    pub marked : Marked (groups S L m os G) n s.1
