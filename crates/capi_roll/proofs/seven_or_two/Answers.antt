use Rattle.capi_roll.specs.Told.{is_seven, is_two}
use Rattle.capi_roll.proofs.seven_or_two.Goals as goal

pub returns-then-number-eq7 : goal.returns-then-number-eq7
returns-then-number-eq7 c = is_seven c.if-number-eq7.true

pub returns-else-number-eq7 : goal.returns-else-number-eq7
returns-else-number-eq7 c = is_two c.if-number-eq7.false
