use Rattle.std.proofs.Common.{Ok, ap, ◌∙◌}
use Rattle.capi_reports.specs.Told.{put-alike, put_unlike, put_refused}
use Rattle.capi_reports.proofs.auditing.told.Goals as goal

pub returns-in-Ok-None : goal.returns-in-Ok-None
returns-in-Ok-None c =
    let a = c.args in
    put-alike a.place.now a.numbers.now a.a (c.in-Ok-None.is ∙ ap Ok (rw c.in-Ok-None.is at c.in-Ok-None.field-0-is))

pub returns-in-Ok-Some : goal.returns-in-Ok-Some
returns-in-Ok-Some c =
    let a = c.args in
    put_unlike a.place.now a.numbers.now a.a _ c.requires (c.in-Ok-Some.is ∙ ap Ok (rw c.in-Ok-Some.is at c.in-Ok-Some.field-0-is))

pub returns-in-Err : goal.returns-in-Err
returns-in-Err c =
    let a = c.args in
    put_refused a.place.now a.numbers.now a.a c.in-Err.r c.from.result c.in-Err.is c.from.ensures
