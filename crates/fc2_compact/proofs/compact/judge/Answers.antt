use lib.Dec.{lit≤}
use Rattle.fc2_compact.proofs.compact.judge.Goals as goal

pub judge_compact-requires : goal.judge_compact-requires
judge_compact-requires c = (lit≤ tt, lit≤ tt, lit≤ tt)

pub returns : goal.returns
returns c = c.judge_compact.ensures
