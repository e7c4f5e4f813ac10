use mathlib.Core.Path.{ap, ◌∙◌}
use Rattle.places.specs.Places.{perms3, full_shifts}
use Rattle.orbits.specs.Symmetric.{mean6}
use Rattle.audits.specs.Guard.{whole-shifts}
use Rattle.acoustic.specs.Acoustic.{without_drifts}
use Rattle.acoustic.specs.Calls.{one_level_lem, tiles_ready}
use Rattle.acoustic.proofs.third_full.full_level.Goals as goal

pub symmetrize-requires : goal.symmetrize-requires
symmetrize-requires c = rw c.full_legs_off.auto.fc3 (tiles_ready c.args.n _ _ c.requires.0 c.requires.1)

pub returns : goal.returns
returns c =
    let a = c.args in
    one_level_lem mean6 (full_shifts a.n) 2 perms3 a.fc3.now (c.full_legs_off.ensures ∙ ap (λ S. without_drifts S 2 a.fc3.now) (whole-shifts a.n)) c.symmetrize.ensures
