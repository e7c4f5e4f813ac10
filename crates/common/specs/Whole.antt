-- Rounding a float to a whole number, halves away from zero: Rust's `f64::round`, and `nint` of document 01, which is Rust's `x.round() as i64`.
-- NearestWhole.antt says what these definitions mean and proves it. Assumes nothing.
use Rattle.std.specs.Prelude.{ℕ, ◌+◌, ◌*◌, ◌/◌, ℤ, Float}
use Rattle.std.specs.Float.{nan, inf, fin, binary64}
use Rattle.std.specs.Float.Ieee.{up, down, round, to_signed}

-- n / d to the nearest whole number, halves up: n / d + 1 / 2 without its fraction
unfoldable pub half_up : ℕ → ℕ → ℕ
half_up n d = (2 * n + d) / (2 * d)

-- x to the nearest whole number. A NaN and the infinities stay as they are. A finite x is the fraction m * up e / down e with the sign s: its
-- size is rounded, and the sign is kept, a zero's too. `round` only writes the whole number as a float, and loses nothing of it.
unfoldable pub nearest_whole : Float → Float
unfolding half_up
nearest_whole nan = nan
nearest_whole (inf s) = inf s
nearest_whole (fin s m e) = round binary64 s (half_up (m * up e) (down e)) 1

-- That whole number as an i64, which has 63 digits and a sign: `to_signed` stops at the nearest end of the range, and gives 0 for a NaN.
unfoldable pub nint : Float → ℤ
unfolding nearest_whole
nint x = to_signed 63 (nearest_whole x)
