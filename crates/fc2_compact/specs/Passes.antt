-- The passes over compact sets of second order, n_patom × n_satom blocks of 9 (document 01, "Second order", "Shift tables"): what each leaves, place by place.
-- A place is two legs: a primitive atom with a direction, and a supercell atom with a direction. Assumes nothing.
use Rattle.std.specs.Prelude.{cond, List, [], ◌∷◌, ℕ, get_or, eqb, Float}
use Rattle.std.specs.Float.{nan, binary64}
use Rattle.std.specs.Float.Ieee.{neg, add, sub, mul}
use Rattle.lists.specs.Tab.{times}
use Rattle.tables.specs.Shifts.{Shifts, p2s_at}
use Rattle.places.specs.Places.{Leg, atom, dir, at, fill}
use Rattle.places.specs.Moves.{source, order2, transposed2}
use Rattle.lists.specs.Floats.{plus_zero}
use Rattle.lines.specs.Sums3x3.{half, inverse}

-- the number at a place of the set
abbrev pub at2 : Shifts → List Float → List Leg → Float
at2 S set ys = at nan S set ys

-- (x + y) / 2
abbrev pub mean : Float → Float → Float
mean x y = half (add binary64 x y)

-- ---- pairs

-- transpose: each number trades places with its counterpart, the number of the legs exchanged; the half-shift blocks stay
unfoldable pub transposed : Shifts → List Float → List Float
transposed S set = transposed2 nan S set

-- no transpose: each number becomes the mean of itself and its counterpart, in blocks that are their own counterpart too.
-- The Rust takes the mean of such a block's numbers more than once, but for its diagonal: MeanLaws.antt has why the second mean changes nothing.
unfoldable pub averaged_compact : Shifts → List Float → List Float
averaged_compact S set = fill S 1 (λ ys. mean (at2 S set ys) (at2 S set (source S order2 ys)))

-- ---- rows

-- the sum over the second atom j, from 0.0, rising, of the numbers at x and (j, d)
unfoldable pub row_sum_compact : Shifts → List Float → Leg → ℕ → Float
row_sum_compact S set x d = times S.n_satom (λ j s. add binary64 s (at2 S set (x ∷ (j, d) ∷ []))) plus_zero

-- the off-site sum: the same over all atoms but the first leg's own
unfoldable pub off_site_sum_compact : Shifts → List Float → Leg → ℕ → Float
off_site_sum_compact S set x d =
    times S.n_satom (λ j s. cond (eqb (p2s_at S (atom x)) j) s (add binary64 s (at2 S set (x ∷ (j, d) ∷ [])))) plus_zero

-- the row drift taken away: the sum times 1 / n_satom
unfoldable pub without_row_drift_compact : Shifts → List Float → List Float
without_row_drift_compact S set =
    fill S 1 (λ ys.
    let x = get_or ys 0 (0, 0) in
    let d = dir (get_or ys 1 (0, 0)) in
    sub binary64 (at2 S set ys) (mul binary64 (row_sum_compact S set x d) (inverse S.n_satom)))

-- the on-site blocks by the acoustic sum rule: -(sum + transposed sum) / 2
unfoldable pub on_site : Shifts → List Float → List Float
on_site S set =
    fill S 1 (λ ys.
    let x = get_or ys 0 (0, 0) in
    let y = get_or ys 1 (0, 0) in
    let s = add binary64 (off_site_sum_compact S set x (dir y)) (off_site_sum_compact S set (atom x, dir y) (dir x)) in
    cond (eqb (p2s_at S (atom x)) (atom y)) (half (neg s)) (at2 S set ys))
