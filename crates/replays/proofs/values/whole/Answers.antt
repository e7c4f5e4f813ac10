use Rattle.std.proofs.Common.{pos, ap, ◌∙◌, arith, w64}
use mir.ValLaws.{to_z_pos}
use Rattle.replays.proofs.values.whole.Goals as goal

pub returns : goal.returns
returns c = to_z_pos w64 c.draw.result (omega arith) ∙ ap pos c.draw.ensures.0
