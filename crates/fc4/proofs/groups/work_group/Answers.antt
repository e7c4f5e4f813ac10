use mathlib.Core.Path.{ap, ◌∙◌}
use Rattle.places.specs.Permutations.{perms4}
use Rattle.orbits.specs.Groups.{spread_block}
use Rattle.fc4.proofs.groups.work_group.Goals as goal

pub returns : goal.returns
returns c =
    c.put_blocks.ensures ∙ ap (λ v. spread_block 3 perms4 c.args.bs.now v c.args.fc4.now) c.group_means-v.ensures
