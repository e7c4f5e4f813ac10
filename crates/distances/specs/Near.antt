-- What the distance of two positions is to the tolerance, modulo the lattice (document 01, "Matched atoms"; document 02, A.3): near if the root of the sum
-- of the squares is less than it, no number if the root is NaN. Assumes nothing.
use Rattle.std.specs.Prelude.{Bool, true, false, cond, List, ℕ, ◌+◌, ◌*◌, get_or, Float}
use Rattle.std.specs.Float.{nan, binary64}
use Rattle.std.specs.Float.Ieee.{add, sub, mul, lt, is_nan, of_bits}
use Rattle.common.specs.Whole.{nearest_whole}
use Rattle.common.specs.Root.{sqrt}
use Rattle.distances.specs.declared.Cell.{Cell}
use Rattle.distances.specs.declared.Distance.{Distance}
use Rattle.distances.specs.declared.Distance.TheVariants.{Near, Far, NoNumber}

-- an axis difference less its own rounding
abbrev pub wrapped : Float → Float → Float
wrapped a b = let d = sub binary64 a b in sub binary64 d (nearest_whole d)

-- the difference on an axis: along one that does not repeat it is whole (document 02, A.9)
abbrev pub difference : Bool → Float → Float → Float
difference repeats a b = cond repeats (wrapped a b) (sub binary64 a b)

-- 0.0 + a x + b y + c z, in that order
abbrev pub dot : Float → Float → Float → Float → Float → Float → Float
dot a b c x y z = add binary64 (add binary64 (add binary64 (of_bits binary64 0) (mul binary64 a x)) (mul binary64 b y)) (mul binary64 c z)

-- the summed squares of the difference (x, y, z) times the rows of the lattice l, in whose columns the basis vectors stand
unfoldable pub squares : List Float → Float → Float → Float → Float
squares l x y z =
    let row : ℕ → Float = λ k. dot (get_or l (k * 3) nan) (get_or l (k * 3 + 1) nan) (get_or l (k * 3 + 2) nan) x y z in
    dot (row 0) (row 1) (row 2) (row 0) (row 1) (row 2)

-- the summed squares for position i of pos and position j of rot
unfoldable pub distance2 : Cell → List Float → List Float → ℕ → ℕ → Float
distance2 cell pos rot i j =
    let axis : ℕ → Float = λ k. difference (get_or cell.periodic k false) (get_or pos (i * 3 + k) nan) (get_or rot (j * 3 + k) nan) in
    squares cell.lattice (axis 0) (axis 1) (axis 2)

-- What a distance d is to a tolerance. `lt` is false where a NaN stands, so against a NaN tolerance every distance that is a number is far.
abbrev pub classified : Float → Float → Distance
classified d symprec = cond (is_nan d) NoNumber (cond (lt d symprec) Near Far)

-- what the distance of position i of pos and position j of rot is to the tolerance
unfoldable pub distance : Cell → List Float → List Float → ℕ → ℕ → Distance
distance cell pos rot i j = classified (sqrt binary64 (distance2 cell pos rot i j)) cell.symprec

abbrev pub is_near : Distance → Bool
is_near Near = true
is_near Far = false
is_near NoNumber = false

abbrev pub is_none : Distance → Bool
is_none Near = false
is_none Far = false
is_none NoNumber = true

-- position i is near slot j, by what is told of their distance; a distance that is no number is not near
abbrev pub near_by : (ℕ → ℕ → Distance) → ℕ → ℕ → Bool
near_by dist i j = is_near (dist i j)

abbrev pub near : Cell → List Float → List Float → ℕ → ℕ → Bool
near cell pos rot = near_by (distance cell pos rot)
