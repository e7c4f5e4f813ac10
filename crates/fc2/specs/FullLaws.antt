-- An on-site block's means, and the places of a full set of n atoms and m numbers. Assumes nothing.
use Rattle.std.specs.Prelude.{◌≡◌, refl, List, [], ◌∷◌, ℕ, ◌+◌, ◌*◌, ◌<◌, get_or, Float}
use Rattle.std.proofs.Common.{arith}
use Rattle.std.specs.Float.{nan, binary64}
use Rattle.std.specs.Float.Ieee.{add}
use Rattle.lists.specs.Floats.{add_commutes}
use Rattle.lines.specs.Sums3x3.{half}
use Rattle.lists.specs.Digits.{horner}
use Rattle.lines.specs.Lines.{Inside, Line, Sized, block_fits}
use Rattle.fc2.specs.FullLoops.{evened}

-- each mean of two numbers of an on-site block is worked out once
pub evened-once : (b : List Float)
    → let x = half (add binary64 (get_or b 1 nan) (get_or b 3 nan)) in
    let y = half (add binary64 (get_or b 2 nan) (get_or b 6 nan)) in
    let z = half (add binary64 (get_or b 5 nan) (get_or b 7 nan)) in
    (get_or b 0 nan ∷ x ∷ y ∷ x ∷ get_or b 4 nan ∷ z ∷ y ∷ z ∷ get_or b 8 nan ∷ []) ≡ evened b
evened-once b =
    rw (add_commutes binary64 (get_or b 3 nan) (get_or b 1 nan), add_commutes binary64 (get_or b 6 nan) (get_or b 2 nan), add_commutes binary64 (get_or b 7 nan) (get_or b 5 nan)) refl

-- the number of a block as it is worked out
pub full_is : {b : ℕ} (n i j : ℕ) → b ≡ horner n i (j ∷ []) → b ≡ i * n + j
unfolding horner
full_is n i j e = e

module _ {n m : ℕ} (z : Sized n n m) where
  pub pair_inside : (i j : ℕ) → i < n → j < n → Inside (j * n + i) (i * n + j) m
  pair_inside i j hi hj = record { one = block_fits z j i hj hi; other = block_fits z i j hi hj }

  pub column-line : (j : ℕ) → j < n → Line j n n m
  column-line j hj = record { within = λ k hk. let h = block_fits z k j hk hj in omega arith }
