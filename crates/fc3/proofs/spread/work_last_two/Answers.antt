use mathlib.Core.Path.{ap, ◌∙◌}
use mathlib.Core.List.{[], ◌∷◌}
use Rattle.places.specs.Permutations.{perms3}
use Rattle.orbits.specs.Groups.{spread_block}
use Rattle.fc3.specs.Repeated.{last-two}
use Rattle.fc3.proofs.spread.work_last_two.Goals as goal

pub returns : goal.returns
returns c =
    let a = c.args in
    last-two a.abb a.bab a.bba c.requires.1 c.means_last_two.result a.fc3.now c.requires.0 c.later_lnm-w.ensures c.permute_mln.ensures c.permute_nlm.ensures
    c.write27.ensures c.write27-2.ensures c.write27-3.ensures
    ∙ ap (λ v. spread_block 2 perms3 (a.abb ∷ a.abb ∷ a.bab ∷ a.bba ∷ a.bab ∷ a.bba ∷ []) v a.fc3.now) c.means_last_two.ensures
