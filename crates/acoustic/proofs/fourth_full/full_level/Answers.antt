use mathlib.Core.Path.{ap, ◌∙◌}
use lib.ListN.{length}
use Rattle.places.specs.Places.{perms4, full_shifts}
use Rattle.fc4.specs.Mean24.{mean24}
use Rattle.audits.specs.Guard.{whole-shifts}
use Rattle.acoustic.specs.Acoustic.{without_drifts}
use Rattle.acoustic.specs.Calls.{one_level_lem}
use Rattle.acoustic.specs.Fourth.{full_call}
use Rattle.acoustic.proofs.fourth_full.full_level.Goals as goal

pub full_legs_off-requires : goal.full_legs_off-requires
full_legs_off-requires c = (c.requires.room, c.requires.atoms)

pub returns : goal.returns
returns c =
    let a = c.args in
    one_level_lem mean24 (full_shifts a.n) 3 perms4 a.fc4.now (c.full_legs_off.ensures ∙ ap (λ S. without_drifts S 3 a.fc4.now) (whole-shifts a.n))
    (full_call _ a.done.now a.n (length a.fc4.now) c.full_legs_off.auto.fc4 c.requires.passes c.set_permutation_symmetry_fc4.ensures)
