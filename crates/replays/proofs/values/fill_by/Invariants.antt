use Rattle.std.proofs.Common.{ℕ, ◌<◌, get_or}
use Rattle.replays.proofs.values.fill_by.Given as goal

abbrev pub invariant-loop-i : goal.invariant-loop-i
invariant-loop-i g l = (d : _) (k : ℕ) → k < l.i → goal.F-post g l.f k (get_or l.out k d)
