use Rattle.audits.specs.FourthScanLaws.{orders}
use Rattle.audits.proofs.fourth.FourthOrder81241944.positions.Goals as goal

pub returns : goal.returns
returns c = orders c.addresses.ensures
