use Rattle.roll.specs.StepLaws.{record_is}
use Rattle.roll.proofs.reading.record_at.Goals as goal

pub returns : goal.returns
returns c =
    let a = c.args in
    record_is a.b.now a.at _ _ c.set_at.ensures.0 c.earlier_at.ensures.0
