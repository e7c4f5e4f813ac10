-- What is on the grid and what is not, at its ends and beside them, and why A.10 asks for it. Floats stand as bits. Assumes nothing.
use Rattle.std.specs.Prelude.{◌≡◌, refl, Bool, true, false, ℕ, zero, suc, Float}
use Rattle.std.specs.Float.{nan, inf, binary64}
use Rattle.std.specs.Float.Ieee.{of_bits, add, sub, neg, sum, round}
use Rattle.lists.specs.Tab.{times}
use Rattle.grid.specs.Grid.{on_grid}
use Rattle.grid.specs.Sums.{pass_over}
use Rattle.grid.specs.Edits.{edited}

abbrev pub is_on : ℕ → Bool
is_on b = on_grid (of_bits binary64 b)

-- both zeros, one step up and one down, both ends
pub on : (is_on 0 ≡ true) × (is_on 0x8000_0000_0000_0000 ≡ true) × (is_on 0x3eb0_0000_0000_0000 ≡ true) × (is_on 0xbeb0_0000_0000_0000 ≡ true)
    × (is_on 0x4130_0000_0000_0000 ≡ true) × (is_on 0xc130_0000_0000_0000 ≡ true)
unfolding on_grid of_bits
on = (refl, refl, refl, refl, refl, refl)

-- half a step; one step past either end; the next double past the upper end; the smallest double; NaN and both infinities
pub off : (is_on 0x3ea0_0000_0000_0000 ≡ false) × (is_on 0x4130_0000_0000_1000 ≡ false) × (is_on 0xc130_0000_0000_1000 ≡ false)
    × (is_on 0x4130_0000_0000_0001 ≡ false) × (is_on 1 ≡ false) × (on_grid nan ≡ false) × (on_grid (inf true) ≡ false) × (on_grid (inf false) ≡ false)
unfolding on_grid of_bits
off = (refl, refl, refl, refl, refl, refl, refl, refl)

-- two atoms whose numbers are 10^16, which is off the grid, and 1.0
abbrev large : Float
large = of_bits binary64 0x4341_c379_37e0_8000

abbrev one : Float
one = of_bits binary64 0x3ff0_0000_0000_0000

abbrev before : ℕ → Float
before zero = large
before (suc j) = one

-- the first set to zero
abbrev now : ℕ → Float
now zero = of_bits binary64 0
now (suc j) = one

-- off the grid a sum that follows is not that of a fresh pass: 0.0 is kept where 1.0 is right
pub kept_is_zero : edited (pass_over 2 before) large (of_bits binary64 0) ≡ of_bits binary64 0
unfolding pass_over times add sub neg sum round of_bits
kept_is_zero = refl

pub fresh_is_one : pass_over 2 now ≡ one
unfolding pass_over times add sum round of_bits
fresh_is_one = refl
