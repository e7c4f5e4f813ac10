use Rattle.replays.specs.Tally.{tally}
use Rattle.replays.proofs.Tally.tallied.Goals as goal

pub returns : goal.returns
unfolding tally
returns c = rw (c.plus-2.ensures, c.some.ensures, c.plus.ensures, c.counted.ensures)
