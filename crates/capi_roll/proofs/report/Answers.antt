use Rattle.capi_roll.specs.Told.{reported-count, reported-refused}
use Rattle.capi_roll.proofs.report.Goals as goal

pub returns-in-Ok : goal.returns-in-Ok
returns-in-Ok c =
    reported-count c.args.slot.now c.requires c.in-Ok.is

pub returns-in-Err : goal.returns-in-Err
returns-in-Err c =
    reported-refused c.args.slot.now c.requires c.in-Err.is c.from.ensures
