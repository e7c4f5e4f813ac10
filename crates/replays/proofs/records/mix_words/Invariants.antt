use Rattle.std.proofs.Common.{◌≡◌, ◌+◌, ◌-◌, ◌≤◌}
use Rattle.lists.specs.Tab.{times}
use Rattle.replays.specs.Words.{mixed_at}
use Rattle.replays.proofs.records.mix_words.Given as goal

abbrev pub invariant-loop-k : goal.invariant-loop-k
invariant-loop-k l = (l.k - l.from ≤ l.to - l.from) × (l.g ≡ times (l.k - l.from) (λ i. mixed_at l.s (l.from + i)) l.h)
