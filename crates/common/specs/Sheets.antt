-- Sheets 1 and 2 of document 01, and the root at the ends of its range, by computation. Floats stand as bits. Assumes nothing.
use Rattle.std.specs.Prelude.{◌≡◌, refl, ℕ, pos, negsuc, Float}
use Rattle.std.specs.Float.{binary64}
use Rattle.std.specs.Float.Ieee.{of_bits, to_bits, to_signed, round}
use Rattle.common.specs.Whole.{nearest_whole, nint}
use Rattle.common.specs.Root.{sqrt}

-- the f64 with the bits b, and the bits of its root
abbrev pub f64 : ℕ → Float
f64 b = of_bits binary64 b

abbrev pub root_bits : ℕ → ℕ
root_bits b = to_bits binary64 (sqrt binary64 (f64 b))

-- Sheet 1: `nint` of 2.5, -0.5 and 0.49999999999999994.
pub sheet1 : (nint (f64 0x4004_0000_0000_0000) ≡ pos 3) × (nint (f64 0xbfe0_0000_0000_0000) ≡ negsuc 0) × (nint (f64 0x3fdf_ffff_ffff_ffff) ≡ pos 0)
unfolding nint of_bits to_signed round
sheet1 = (refl, refl, refl)

-- Sheet 2. The root of 2 has the bits 3FF6A09E667F3BCD.
pub sheet2 : root_bits 0x4000_0000_0000_0000 ≡ 0x3ff6_a09e_667f_3bcd
unfolding sqrt of_bits to_bits round
sheet2 = refl

-- the root of the smallest positive f64, 2 ^ -1074, is 2 ^ -537
pub root_of_smallest : root_bits 0x1 ≡ 0x1e60_0000_0000_0000
unfolding sqrt of_bits to_bits round
root_of_smallest = refl

-- the root of the largest f64, which is 2 ^ 1024 less 2 ^ 971, is 2 ^ 512 less 2 ^ 459
pub root_of_largest : root_bits 0x7fef_ffff_ffff_ffff ≡ 0x5fef_ffff_ffff_ffff
unfolding sqrt of_bits to_bits round
root_of_largest = refl

-- -0.0 gives -0.0, to both
pub root_of_minus-zero : sqrt binary64 (f64 0x8000_0000_0000_0000) ≡ f64 0x8000_0000_0000_0000
unfolding sqrt of_bits
root_of_minus-zero = refl

pub whole_of_minus-zero : nearest_whole (f64 0x8000_0000_0000_0000) ≡ f64 0x8000_0000_0000_0000
unfolding nearest_whole of_bits round
whole_of_minus-zero = refl
