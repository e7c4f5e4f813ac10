-- The mean of 24 numbers (document 01: added in the order of the Rust, beginning with 0.0, and the sum divided once). Definitions only.
use Rattle.std.specs.Prelude.{List, Float}
use Rattle.std.specs.Float.{binary64}
use Rattle.std.specs.Float.Ieee.{div, of_bits}
use Rattle.lists.specs.Floats.{sum_from}

-- from 0.0, divided by 24.0
abbrev pub mean24 : List Float → Float
mean24 xs = div binary64 (sum_from (of_bits binary64 0) xs) (of_bits binary64 0x4038_0000_0000_0000)
