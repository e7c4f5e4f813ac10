use Rattle.std.proofs.Common.{Ok, ap, ◌∙◌}
use Rattle.capi_roll.specs.Told.{named_current, named-unknown, named-retired, named-refused}
use Rattle.capi_roll.proofs.name_set.Goals as goal

pub returns-in-Ok-Unknown : goal.returns-in-Ok-Unknown
returns-in-Ok-Unknown c = named-unknown c.args.slot.now (c.in-Ok-Unknown.is ∙ ap Ok (rw c.in-Ok-Unknown.is at c.in-Ok-Unknown.field-0-is))

pub returns-in-Ok-Retired : goal.returns-in-Ok-Retired
returns-in-Ok-Retired c = named-retired c.args.slot.now (c.in-Ok-Retired.is ∙ ap Ok (rw c.in-Ok-Retired.is at c.in-Ok-Retired.field-0-is))

pub returns-in-Ok-Current : goal.returns-in-Ok-Current
returns-in-Ok-Current c = named_current c.args.slot.now c.requires (c.in-Ok-Current.is ∙ ap Ok (rw c.in-Ok-Current.is at c.in-Ok-Current.field-0-is))

pub returns-in-Err : goal.returns-in-Err
returns-in-Err c = named-refused c.args.slot.now c.in-Err.is c.from.ensures
