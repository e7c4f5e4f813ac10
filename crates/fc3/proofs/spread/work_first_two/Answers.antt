use mathlib.Core.Path.{ap, ◌∙◌}
use mathlib.Core.List.{[], ◌∷◌}
use Rattle.places.specs.Permutations.{perms3}
use Rattle.orbits.specs.Groups.{spread_block}
use Rattle.fc3.specs.Repeated.{first_two_lem}
use Rattle.fc3.proofs.spread.work_first_two.Goals as goal

pub returns : goal.returns
returns c =
    let a = c.args in
    first_two_lem a.aac a.aca a.caa c.requires.1 c.means_first_two.result a.fc3.now c.requires.0 c.later_mln-w.ensures c.permute_lnm.ensures c.permute_mnl.ensures
    c.write27.ensures c.write27-2.ensures c.write27-3.ensures
    ∙ ap (λ v. spread_block 2 perms3 (a.aac ∷ a.aca ∷ a.aac ∷ a.aca ∷ a.caa ∷ a.caa ∷ []) v a.fc3.now) c.means_first_two.ensures
