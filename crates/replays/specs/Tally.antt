-- What the replay programs count. Assumes nothing.
use Rattle.std.specs.Prelude.{ℕ, ◌+◌, ◌-◌, ◌/◌, ◌%◌, ◌^◌, cond, List, length, replicate, ◌==◌, nat_lt, slice_index, slice_set}
use Rattle.lists.specs.Tab.{times}
use Rattle.replays.specs.Words.{word_of, mixed, mixed_at, mixed_number}
use Rattle.replays.specs.declared.Tally.{Tally}

-- nothing was compared
abbrev pub no_record : Tally
no_record = record { seen = 0; differ = 0; answers = replicate 128 0; sum = 0 }

-- a count with n more: counts begin again at 2^64
abbrev pub increased : ℕ → ℕ → ℕ
increased a n = (a + n) % 2 ^ 64

-- the counts with one more of number k; a number above 127 is counted in none
unfoldable pub counted_at : List ℕ → ℕ → List ℕ
counted_at counts k = cond (nat_lt 127 k) counts (slice_set counts k (increased (slice_index counts k) 1))

-- one record more: it differs if it has differences; sum is the checksum after it
unfoldable pub tally : Tally → ℕ → ℕ → ℕ → Tally
tally t answer differences sum =
    record {
      seen = increased t.seen 1;
      differ = increased t.differ (cond (differences == 0) 0 1);
      answers = counted_at t.answers answer;
      sum = sum;
    }

-- the differences d with one more, where number i of `got` is not the record's word 1 + i
abbrev pub differing : List ℕ → List ℕ → ℕ → ℕ → ℕ
differing r got i d = increased d (cond (slice_index got i == word_of r (1 + i)) 0 1)

-- how many of `got` differ from the words of the record from number 1 on
abbrev pub differences : List ℕ → List ℕ → ℕ
differences r got = times (length got) (λ i. differing r got i) 0

-- the checksum h after the numbers of `got`
abbrev pub mixed_numbers : List ℕ → ℕ → ℕ
mixed_numbers got h = times (length got) (λ i. mixed_number got i) h

-- the checksum h after the record r, with `got` in place of its words from number 1 on
abbrev pub mixed_record : List ℕ → List ℕ → ℕ → ℕ
mixed_record r got h =
    times (length r / 8 - (1 + length got)) (λ i. mixed_at r (1 + length got + i)) (mixed_numbers got (mixed h (word_of r 0)))

-- the record r too, of whose words those from number 1 on were worked out: `got`
unfoldable pub compare : Tally → List ℕ → ℕ → List ℕ → Tally
compare t r answer got = tally t answer (differences r got) (mixed_record r got t.sum)
