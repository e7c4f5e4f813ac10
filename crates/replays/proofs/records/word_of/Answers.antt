use Rattle.std.proofs.Common.{◌≡◌, ℕ, ◌*◌, ◌/◌, ◌<◌, ◌≤◌, List, length, arith, le-ltb, lt-ltb}
use Rattle.replays.specs.Words.{word_at, word_of}
use Rattle.replays.proofs.records.word_of.Goals as goal

within : (s : List ℕ) (k w : ℕ) → k < length s / 8 → w ≡ word_at s (8 * k) → w ≡ word_of s k
unfolding word_of
within s k w h e = rw (lt-ltb k (length s / 8) h) e

past : (s : List ℕ) (k : ℕ) → length s / 8 ≤ k → 0 ≡ word_of s k
unfolding word_of
past s k h = rw (le-ltb k (length s / 8) h)

pub returns-then-k-s : goal.returns-then-k-s
returns-then-k-s c = within _ _ _ (omega arith) c.word.ensures

pub returns : goal.returns
returns c = past _ _ (omega arith)
