use Rattle.std.proofs.Common.{sym, arith}
use Rattle.roll.specs.StepLaws.{stays, goes_on, record_room}
use Rattle.roll.proofs.reading.past_by.Goals as goal

pub record_end-requires : goal.record_end-requires
record_end-requires c =
    let a = c.args in
    omega (arith, (record_room a.ok a.b.now a.at (sym c.if-holds_record.ensures) c.requires).0)

pub returns-then-holds_record : goal.returns-then-holds_record
returns-then-holds_record c =
    let a = c.args in
    goes_on a.ok a.b.now a.at (sym c.if-holds_record.ensures) c.record_end.ensures

pub returns-else-holds_record : goal.returns-else-holds_record
returns-else-holds_record c =
    let a = c.args in
    stays a.ok a.b.now a.at (sym c.if-holds_record.ensures)
