use Rattle.std.proofs.Common.{◌≡◌, ℕ, ◌+◌, ◌-◌, ◌*◌, ◌/◌, ◌<◌, ◌≤◌, List, length, ap, arith, le-ltb, lt-ltb}
use Rattle.replays.specs.Words.{word_at, record_end}
use Rattle.replays.proofs.records.end.Goals as goal

-- what is promised of the end r
abbrev Ends : List ℕ → ℕ → ℕ → Type 0
Ends s at r = (r ≡ record_end s at) × (at ≤ r) × (r ≤ length s)

goes : (s : List ℕ) (at n : ℕ) → at ≤ length s → n ≡ word_at s at → n < (length s - at) / 8 → Ends s at (at + 8 + 8 * n)
unfolding record_end
goes s at n h e b =
    let g : word_at s at < (length s - at) / 8 = omega arith in
    (rw (lt-ltb (word_at s at) ((length s - at) / 8) g) (ap (λ (m : ℕ). at + 8 + 8 * m) e), omega arith, omega arith)

stays : (s : List ℕ) (at : ℕ) → at ≤ length s → (length s - at) / 8 ≤ word_at s at → Ends s at at
unfolding record_end
stays s at h b = (rw (le-ltb (word_at s at) ((length s - at) / 8) b), omega arith, h)

pub returns-then-room-eq0 : goal.returns-then-room-eq0
returns-then-room-eq0 c = stays _ _ (omega arith) (omega arith)

pub returns-then-n-room : goal.returns-then-n-room
returns-then-n-room c = goes _ _ _ (omega arith) (omega arith) (omega arith)

pub returns : goal.returns
returns c = stays _ _ (omega arith) (omega arith)
