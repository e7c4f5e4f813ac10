use Rattle.std.proofs.Common.{◌≡◌, ℕ, ◌/◌, ◌<◌, ◌≤◌, List, length, arith, le-ltb, lt-ltb}
use Rattle.replays.specs.Words.{word_of, records_in}
use Rattle.replays.proofs.records.count.Goals as goal

within : (s : List ℕ) (n : ℕ) → n ≡ word_of s 0 → n < length s / 8 → n ≡ records_in s
unfolding records_in
within s n e h =
    let g : word_of s 0 < length s / 8 = omega arith in
    rw (lt-ltb (word_of s 0) (length s / 8) g) e

past : (s : List ℕ) (n : ℕ) → n ≡ word_of s 0 → length s / 8 ≤ n → 0 ≡ records_in s
unfolding records_in
past s n e h =
    let g : length s / 8 ≤ word_of s 0 = omega arith in
    rw (le-ltb (word_of s 0) (length s / 8) g)

pub returns-then-said-s : goal.returns-then-said-s
returns-then-said-s c = within _ _ (omega arith) (omega arith)

pub returns : goal.returns
returns c = past _ c.word_of-said.result (omega arith) (omega arith)
