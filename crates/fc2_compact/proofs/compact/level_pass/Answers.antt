use mathlib.Core.Path.{◌∙◌}
use Rattle.fc2_compact.specs.Compact.{leveled}
use Rattle.fc2_compact.specs.Code.{ready-same}
use Rattle.fc2_compact.proofs.compact.level_pass.Goals as goal

pub transpose_pass-requires : goal.transpose_pass-requires
transpose_pass-requires c = c.requires

pub drift_pass-requires : goal.drift_pass-requires
drift_pass-requires c = ready-same c.transpose_pass.auto.fc c.requires

pub transpose_pass-requires-2 : goal.transpose_pass-requires-2
transpose_pass-requires-2 c = ready-same (c.drift_pass.auto.fc ∙ c.transpose_pass.auto.fc) c.requires

pub drift_pass-requires-2 : goal.drift_pass-requires-2
drift_pass-requires-2 c =
    ready-same (c.transpose_pass-2.auto.fc ∙ c.drift_pass.auto.fc ∙ c.transpose_pass.auto.fc) c.requires

pub average_pass-requires : goal.average_pass-requires
average_pass-requires c =
    ready-same
    (c.drift_pass-2.auto.fc ∙ c.transpose_pass-2.auto.fc ∙ c.drift_pass.auto.fc ∙ c.transpose_pass.auto.fc)
    c.requires

pub returns : goal.returns
unfolding leveled
returns c =
    rw (c.average_pass.ensures, c.drift_pass-2.ensures, c.transpose_pass-2.ensures, c.drift_pass.ensures, c.transpose_pass.ensures)
