use Rattle.tables.proofs.Integers.{is_negative, is_index}
use Rattle.tables.proofs.index.is_below.Goals as goal

pub returns-then-x-lt0 : goal.returns-then-x-lt0
returns-then-x-lt0 c = is_negative c.args.n c.args.x c.ranges.x c.if-x-lt0.true

pub overflow_cast-result : goal.overflow_cast-result
overflow_cast-result c = (is_index c.args.n c.args.x c.ranges.x c.if-x-lt0.false).0

pub returns : goal.returns
returns c = (is_index c.args.n c.args.x c.ranges.x c.if-x-lt0.false).1
