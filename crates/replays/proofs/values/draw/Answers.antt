use Rattle.std.proofs.Common.{ap, ◌∙◌}
use Rattle.replays.specs.Values.{stirred}
use Rattle.replays.proofs.values.draw.Goals as goal

pub returns : goal.returns
returns c = (c.stir.ensures.0 ∙ ap stirred c.mix.ensures, c.stir.ensures.1)
