use Rattle.capi_cells.specs.Cells.{two_slots}
use Rattle.capi_cells.proofs.put.Goals as goal

pub returns : goal.returns
returns c = two_slots c.args.pair.now c.args.p.position c.args.p.slot c.requires
