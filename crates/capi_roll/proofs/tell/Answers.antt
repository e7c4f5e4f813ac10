use Rattle.std.proofs.Common.{Ok, ap, ◌∙◌}
use Rattle.capi_roll.specs.Told.{told_record, told_end, told-refused}
use Rattle.capi_roll.proofs.tell.Goals as goal

pub returns-in-Ok-Record : goal.returns-in-Ok-Record
returns-in-Ok-Record c =
    let q = c.in-Ok-Record.is ∙ ap Ok (rw c.in-Ok-Record.is at c.in-Ok-Record.field-0-is) in
    told_record c.args.b.now c.args.at c.args.slots.now c.requires.1 q c.from-in-Ok-Record.ensures c.record_end.ensures (rw c.from.ensures at c.copy_from_slice.ensures.after)

pub returns-in-Ok-End : goal.returns-in-Ok-End
returns-in-Ok-End c =
    told_end c.args.b.now c.args.at c.args.slots.now (c.in-Ok-End.is ∙ ap Ok (rw c.in-Ok-End.is at c.in-Ok-End.field-0-is))

pub returns-in-Err : goal.returns-in-Err
returns-in-Err c =
    told-refused c.args.b.now c.args.at c.args.slots.now c.in-Err.is c.from-in-Err.ensures
