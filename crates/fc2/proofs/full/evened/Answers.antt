use Rattle.fc2.specs.FullLaws.{evened-once}
use Rattle.fc2.proofs.full.evened.Goals as goal

pub returns : goal.returns
returns c = evened-once c.args.b
