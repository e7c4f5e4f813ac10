use Rattle.audits.specs.Blocks.{alike-none}
use Rattle.audits.proofs.any_order.settle.Goals as goal

pub scan-requires : goal.scan-requires
scan-requires g c = (c.requires, alike-none _ _ _ _)

pub returns : goal.returns
returns g c = c.scan.ensures
