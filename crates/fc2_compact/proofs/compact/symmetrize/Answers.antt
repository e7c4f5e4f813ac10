use Rattle.fc2_compact.specs.Compact.{symmetrized_compact}
use Rattle.fc2_compact.specs.Code.{ready-same}
use Rattle.fc2_compact.proofs.compact.symmetrize.Goals as goal

pub levels-requires : goal.levels-requires
levels-requires c = c.requires

pub site_pass-requires : goal.site_pass-requires
site_pass-requires c = ready-same c.levels.auto.fc c.requires

pub returns : goal.returns
unfolding symmetrized_compact
returns c = rw (c.site_pass.ensures, c.levels.ensures)
