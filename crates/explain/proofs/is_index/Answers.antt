use Rattle.tables.proofs.Integers.{is_negative, is_index as reads-index}
use Rattle.explain.proofs.is_index.Goals as goal

pub returns-then-x-lt0 : goal.returns-then-x-lt0
returns-then-x-lt0 c = is_negative c.args.n c.args.x c.ranges.x c.if-x-lt0.true

pub overflow_cast-result : goal.overflow_cast-result
overflow_cast-result c = (reads-index c.args.n c.args.x c.ranges.x c.if-x-lt0.false).0

pub returns : goal.returns
returns c = (reads-index c.args.n c.args.x c.ranges.x c.if-x-lt0.false).1
