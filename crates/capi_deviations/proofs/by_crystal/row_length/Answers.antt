use lib.Dec.{lit<}
use Rattle.capi_deviations.specs.Slots.{row-none, row-some}
use Rattle.capi_deviations.proofs.by_crystal.row_length.Goals as goal

pub returns-then-len-eq0 : goal.returns-then-len-eq0
returns-then-len-eq0 c = (row-none c.args.len c.if-len-eq0.true, lit< tt)

pub returns : goal.returns
returns c = row-some c.args.len c.if-len-eq0.false
