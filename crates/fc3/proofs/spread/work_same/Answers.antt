use mathlib.Core.Path.{ap, ◌∙◌}
use mathlib.Core.List.{[], ◌∷◌}
use Rattle.places.specs.Permutations.{perms3}
use Rattle.orbits.specs.Groups.{spread_block}
use Rattle.blocks.specs.Permuted.{gathered}
use Rattle.fc3.specs.Later.{later_mln, later_lnm}
use Rattle.fc3.specs.Repeated.{all_same_lem}
use Rattle.fc3.proofs.spread.work_same.Goals as goal

pub returns : goal.returns
returns c =
    let a = c.args in
    all_same_lem a.aaa c.any_means-v.result a.fc3.now c.requires
    (c.later_mln-w.ensures ∙ ap (λ u. gathered u later_mln) (c.later_lnm.ensures ∙ ap (λ u. gathered u later_lnm) c.later_mln.ensures)) c.write27.ensures
    ∙ ap (λ v. spread_block 2 perms3 (a.aaa ∷ a.aaa ∷ a.aaa ∷ a.aaa ∷ a.aaa ∷ a.aaa ∷ []) v a.fc3.now) c.any_means-v.ensures
