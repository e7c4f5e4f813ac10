-- The numbers of a set that the recorder and the replay programs both make from a seed, what a table's entries are in
-- a record, and the checksum over a slice. Assumes nothing.
use Rattle.std.specs.Prelude.{ℕ, ◌+◌, ◌*◌, ◌%◌, ◌^◌, cond, List, [], ◌∷◌, length, ℤ, pos, bit_and, bit_or, from_bits, nat_lt, slice_index, slice_index_or, to_bits, Float}
use Rattle.std.specs.Float.{nan, binary64}
use Rattle.std.specs.Int.{w64}
use Rattle.std.proofs.Common.{of_z, to_z}
use Rattle.replays.specs.Words.{mixed, word_of}

-- a number below the checksum's prime, and the next one that is drawn
abbrev pub stirred : ℕ → ℕ
stirred h = mixed (h * h % 4294967291) h

-- what is drawn first for place i of a slice with this seed
abbrev pub drawn : ℕ → ℕ → ℕ
drawn seed i = stirred (mixed seed i)

-- For each of sixteen kinds of set the classes of sixteen numbers, one of which is drawn. 0: an ordinary number,
-- 1: a zero of either sign, 2: a subnormal number, 3: a huge one, 4: an infinity, 5: NaN, 6: any pattern, 7: -0.0,
-- 8: an ordinary number that is not negative, 9: one of the largest, of which no two can be added.
unfoldable pub classes : List ℕ
classes =
    0 ∷ 0 ∷ 0 ∷ 0 ∷ 0 ∷ 0 ∷ 0 ∷ 0 ∷ 0 ∷ 0 ∷ 0 ∷ 0 ∷ 0 ∷ 0 ∷ 0 ∷ 0
    ∷ 1 ∷ 1 ∷ 1 ∷ 1 ∷ 1 ∷ 1 ∷ 1 ∷ 1 ∷ 1 ∷ 1 ∷ 2 ∷ 2 ∷ 2 ∷ 2 ∷ 0 ∷ 0
    ∷ 3 ∷ 3 ∷ 3 ∷ 3 ∷ 3 ∷ 3 ∷ 3 ∷ 3 ∷ 0 ∷ 0 ∷ 0 ∷ 0 ∷ 0 ∷ 0 ∷ 0 ∷ 1
    ∷ 4 ∷ 0 ∷ 0 ∷ 0 ∷ 0 ∷ 0 ∷ 0 ∷ 0 ∷ 0 ∷ 0 ∷ 0 ∷ 0 ∷ 0 ∷ 0 ∷ 0 ∷ 0
    ∷ 5 ∷ 0 ∷ 0 ∷ 0 ∷ 0 ∷ 0 ∷ 0 ∷ 0 ∷ 0 ∷ 0 ∷ 0 ∷ 0 ∷ 0 ∷ 0 ∷ 0 ∷ 0
    ∷ 6 ∷ 6 ∷ 6 ∷ 6 ∷ 6 ∷ 6 ∷ 6 ∷ 6 ∷ 6 ∷ 6 ∷ 6 ∷ 6 ∷ 6 ∷ 6 ∷ 6 ∷ 6
    ∷ 1 ∷ 1 ∷ 1 ∷ 1 ∷ 1 ∷ 1 ∷ 1 ∷ 1 ∷ 1 ∷ 1 ∷ 1 ∷ 1 ∷ 1 ∷ 1 ∷ 1 ∷ 1
    ∷ 0 ∷ 0 ∷ 0 ∷ 0 ∷ 0 ∷ 0 ∷ 0 ∷ 0 ∷ 0 ∷ 1 ∷ 1 ∷ 2 ∷ 3 ∷ 4 ∷ 5 ∷ 6
    ∷ 7 ∷ 7 ∷ 7 ∷ 7 ∷ 7 ∷ 7 ∷ 7 ∷ 7 ∷ 7 ∷ 7 ∷ 7 ∷ 7 ∷ 7 ∷ 7 ∷ 7 ∷ 7
    ∷ 8 ∷ 8 ∷ 8 ∷ 8 ∷ 8 ∷ 8 ∷ 8 ∷ 8 ∷ 8 ∷ 8 ∷ 8 ∷ 8 ∷ 8 ∷ 8 ∷ 8 ∷ 8
    ∷ 1 ∷ 1 ∷ 1 ∷ 1 ∷ 1 ∷ 1 ∷ 1 ∷ 1 ∷ 2 ∷ 2 ∷ 2 ∷ 2 ∷ 2 ∷ 2 ∷ 2 ∷ 2
    ∷ 9 ∷ 9 ∷ 9 ∷ 9 ∷ 9 ∷ 9 ∷ 9 ∷ 9 ∷ 9 ∷ 9 ∷ 9 ∷ 9 ∷ 9 ∷ 9 ∷ 9 ∷ 9
    ∷ 0 ∷ 0 ∷ 0 ∷ 0 ∷ 0 ∷ 0 ∷ 0 ∷ 0 ∷ 0 ∷ 0 ∷ 0 ∷ 0 ∷ 0 ∷ 0 ∷ 0 ∷ 0
    ∷ 0 ∷ 0 ∷ 0 ∷ 0 ∷ 0 ∷ 0 ∷ 0 ∷ 0 ∷ 0 ∷ 0 ∷ 0 ∷ 0 ∷ 0 ∷ 0 ∷ 0 ∷ 0
    ∷ 0 ∷ 0 ∷ 0 ∷ 0 ∷ 0 ∷ 0 ∷ 0 ∷ 0 ∷ 0 ∷ 0 ∷ 0 ∷ 0 ∷ 0 ∷ 0 ∷ 0 ∷ 0
    ∷ 0 ∷ 0 ∷ 0 ∷ 0 ∷ 0 ∷ 0 ∷ 0 ∷ 0 ∷ 0 ∷ 0 ∷ 0 ∷ 0 ∷ 0 ∷ 0 ∷ 0 ∷ 0 ∷ []

-- the bits of a pattern that a number of each class keeps, and those that are set in it
unfoldable pub kept_bits : List ℕ
kept_bits =
    0x807fffffffffffff ∷ 0x8000000000000000 ∷ 0x800fffffffffffff ∷ 0x801fffffffffffff ∷ 0x8000000000000000 ∷ 0 ∷ 0xffffffffffffffff ∷ 0
    ∷ 0x007fffffffffffff ∷ 0x800fffffffffffff ∷ 0 ∷ 0 ∷ 0 ∷ 0 ∷ 0 ∷ 0 ∷ []

unfoldable pub set_bits : List ℕ
set_bits =
    0x3f80000000000000 ∷ 0 ∷ 0 ∷ 0x7fc0000000000000 ∷ 0x7ff0000000000000 ∷ 0x7ff8000000000000 ∷ 0 ∷ 0x8000000000000000
    ∷ 0x3f80000000000000 ∷ 0x7fe0000000000000 ∷ 0 ∷ 0 ∷ 0 ∷ 0 ∷ 0 ∷ 0 ∷ []

-- the class of a number of the kind, by the first number that is drawn for it
abbrev pub class_of : ℕ → ℕ → ℕ
class_of kind a = slice_index classes (kind % 16 * 16 + a % 16)

-- the pattern b as that of a number of the class
abbrev pub shaped_bits : ℕ → ℕ → ℕ
shaped_bits class b = bit_or (bit_and b (slice_index kept_bits (class % 16))) (slice_index set_bits (class % 16))

-- the pattern whose halves are drawn after a
abbrev pub pattern_of : ℕ → ℕ
pattern_of a = stirred a + 4294967296 * stirred (stirred a)

-- number i of a set with this seed and of this kind
unfoldable pub value_at : ℕ → ℕ → ℕ → Float
value_at seed kind i = from_bits binary64 (shaped_bits (class_of kind (drawn seed i)) (pattern_of (drawn seed i)))

-- byte i and integer i of a work slice with this seed
abbrev pub byte_at : ℕ → ℕ → ℕ
byte_at seed i = drawn seed i % 256

abbrev pub integer_at : ℕ → ℕ → ℤ
integer_at seed i = pos (drawn seed i)

-- entry i of a table whose entries are the words of the record from number `from` on
abbrev pub table_entry : List ℕ → ℕ → ℕ → ℤ
table_entry r from i = to_z w64 (word_of r ((from + i) % 2 ^ 64))

-- number i of a slice of floats that are the words of the record from number `from` on
abbrev pub float_at : List ℕ → ℕ → ℕ → Float
float_at r from i = from_bits binary64 (word_of r ((from + i) % 2 ^ 64))

-- byte k of a record, 0 past its end
unfoldable pub byte_of : List ℕ → ℕ → ℕ
byte_of r k = cond (nat_lt k (length r)) (slice_index r k) 0

-- the checksum h after number i of a slice of floats, of integers
abbrev pub mixed_float : List Float → ℕ → ℕ → ℕ
mixed_float s i h = mixed h (to_bits binary64 (slice_index_or s i nan))

abbrev pub mixed_integer : List ℤ → ℕ → ℕ → ℕ
mixed_integer s i h = mixed h (of_z w64 (slice_index_or s i (pos 0)))
