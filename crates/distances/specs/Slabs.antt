-- Slabs, in document 02's words (A.9). Assumes nothing.
use Rattle.std.specs.Prelude.{◌≡◌, Bool, true, cond, List, [], ◌∷◌, ℕ, ◌+◌, ◌*◌, get_or, Float}
use Rattle.std.proofs.Math.Path.{refl}
use Rattle.std.specs.Float.{nan, binary64}
use Rattle.std.specs.Float.Ieee.{sub}
use Rattle.distances.specs.Near.{wrapped, squares, distance2}

-- coordinate k of position i of p less that of position j of q: as it is, and less its own rounding
abbrev apart : List Float → List Float → ℕ → ℕ → ℕ → Float
apart p q i j k = sub binary64 (get_or p (i * 3 + k) nan) (get_or q (j * 3 + k) nan)

abbrev rest : List Float → List Float → ℕ → ℕ → ℕ → Float
rest p q i j k = wrapped (get_or p (i * 3 + k) nan) (get_or q (j * 3 + k) nan)

module _ (l : List Float) (symprec : Float) (p q : List Float) (i j : ℕ) where
  -- along an axis without a flag the whole difference counts: flag k decides of coordinate k, and of no other
  pub by_axis : (a b c : Bool)
      → distance2 (record { lattice = l; symprec = symprec; periodic = a ∷ b ∷ c ∷ [] }) p q i j
      ≡ squares l (cond a (rest p q i j 0) (apart p q i j 0)) (cond b (rest p q i j 1) (apart p q i j 1)) (cond c (rest p q i j 2) (apart p q i j 2))
  unfolding distance2
  by_axis a b c = refl

  -- with three flags it is document 01's distance
  pub in_crystal : distance2 (record { lattice = l; symprec = symprec; periodic = true ∷ true ∷ true ∷ [] }) p q i j
      ≡ squares l (rest p q i j 0) (rest p q i j 1) (rest p q i j 2)
  unfolding distance2
  in_crystal = refl
