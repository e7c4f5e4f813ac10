use mathlib.Core.Path.{ap, ◌∙◌}
use mathlib.Core.List.{[], ◌∷◌}
use lib.ListN.{length}
use Rattle.places.specs.Permutations.{perms3}
use Rattle.orbits.specs.Groups.{spread_block}
use Rattle.fc3.specs.Mean.{mean6}
use Rattle.fc3.specs.Spread.{six-spread, length-means}
use Rattle.fc3.proofs.spread.work_distinct.Goals as goal

pub write27-requires-6 : goal.write27-requires-6
write27-requires-6 c =
    rw (c.write27-5.auto.fc ∙ c.write27-4.auto.fc ∙ c.write27-3.auto.fc ∙ c.write27-2.auto.fc ∙ c.write27.auto.fc) c.requires.0.in3

pub returns : goal.returns
returns c =
    let a = c.args in
    let bs = a.b0 ∷ a.b1 ∷ a.b2 ∷ a.b3 ∷ a.b4 ∷ a.b5 ∷ [] in
    six-spread a.b0 a.b1 a.b2 a.b3 a.b4 a.b5 c.requires.1 a.fc3.now c.group_means-v.result (ap length c.group_means-v.ensures ∙ length-means mean6 perms3 bs a.fc3.now)
    c.permute_mln.ensures c.write27.ensures c.write27-2.ensures c.permute_mnl.ensures c.write27-3.ensures
    c.permute_lnm.ensures c.write27-4.ensures c.permute_nml.ensures c.write27-5.ensures c.permute_nlm.ensures c.write27-6.ensures
    ∙ ap (λ v. spread_block 2 perms3 bs v a.fc3.now) c.group_means-v.ensures
