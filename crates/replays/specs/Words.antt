-- What the records and the checksum are. Assumes nothing.
use Rattle.std.specs.Prelude.{ℕ, ◌+◌, ◌-◌, ◌*◌, ◌/◌, ◌%◌, cond, List, length, nat_lt, slice_index}

-- the number of the four bytes at `at`, the lowest first
abbrev pub half_at : List ℕ → ℕ → ℕ
half_at s at = slice_index s at + 256 * slice_index s (at + 1) + 65536 * slice_index s (at + 2) + 16777216 * slice_index s (at + 3)

-- the number of the eight bytes at `at`, the lowest first
abbrev pub word_at : List ℕ → ℕ → ℕ
word_at s at = half_at s at + 4294967296 * half_at s (at + 4)

-- word number k, 0 past the end
unfoldable pub word_of : List ℕ → ℕ → ℕ
word_of s k = cond (nat_lt k (length s / 8)) (word_at s (8 * k)) 0

-- how many records a page has: its first word, if it has more words than that
unfoldable pub records_in : List ℕ → ℕ
records_in s = cond (nat_lt (word_of s 0) (length s / 8)) (word_of s 0) 0

-- where the record at `at` ends, whose first word is the number of its other words; `at` if the page ends before
unfoldable pub record_end : List ℕ → ℕ → ℕ
record_end s at = cond (nat_lt (word_at s at) ((length s - at) / 8)) (at + 8 + 8 * word_at s at) at

-- where a table ends that begins at `from` among `most` entries, with n of its own or as many as there are
unfoldable pub end_within : ℕ → ℕ → ℕ → ℕ
end_within from n most = cond (nat_lt n (most - from)) (from + n) most

-- The checksum h after one word more. The modulus is a prime, so another bit of the word gives another
-- checksum, and another checksum stays another one.
abbrev pub mixed : ℕ → ℕ → ℕ
mixed h w = (h % 4294967291 * 1000003 + w % 4294967291) % 4294967291

-- the checksum h after word number k of s
abbrev pub mixed_at : List ℕ → ℕ → ℕ → ℕ
mixed_at s k h = mixed h (word_of s k)

-- the checksum h after number i of a list
abbrev pub mixed_number : List ℕ → ℕ → ℕ → ℕ
mixed_number got i h = mixed h (slice_index got i)
