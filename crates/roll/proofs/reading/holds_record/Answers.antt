use Rattle.std.proofs.Common.{◌∙◌}
use Rattle.roll.specs.StepLaws.{not-held, held_by}
use Rattle.roll.proofs.reading.holds_record.Goals as goal

pub returns-then-ok : goal.returns-then-ok
returns-then-ok c =
    let a = c.args in
    held_by a.ok a.b.now a.at c.if-ok.true c.starts_at.ensures

pub returns-else-ok : goal.returns-else-ok
returns-else-ok c =
    let a = c.args in
    c.if-ok.false ∙ not-held a.ok a.b.now a.at c.if-ok.false
