use Rattle.audits.specs.ThirdScanLaws.{orders}
use Rattle.audits.proofs.third.ThirdOrder276162.positions.Goals as goal

pub returns : goal.returns
returns c = orders c.positions.ensures
