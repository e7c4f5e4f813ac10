use Rattle.tables.proofs.Integers.{is_between}
use Rattle.tables.proofs.index.is_within.Goals as goal

pub returns : goal.returns
returns c = is_between c.args.n c.args.x c.args.m c.ranges.x c.ranges.m c.requires
