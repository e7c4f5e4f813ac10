use Rattle.std.proofs.Common.{le-ltb, lt-ltb}
use Rattle.replays.specs.Tally.{counted_at}
use Rattle.replays.proofs.counted.Goals as goal

pub returns-then-k-gt127 : goal.returns-then-k-gt127
unfolding counted_at
returns-then-k-gt127 c = simp (lt-ltb _ _ c.if-k-gt127.true)

pub returns : goal.returns
unfolding counted_at
returns c = simp (le-ltb _ _ c.if-k-gt127.false, c.plus-n.ensures)
