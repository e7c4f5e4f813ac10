use Rattle.audits.specs.SecondScanLaws.{orders}
use Rattle.audits.proofs.second.SecondOrder9218.positions.Goals as goal

pub returns : goal.returns
returns c = orders c.positions.ensures
