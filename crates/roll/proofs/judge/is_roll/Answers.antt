use Rattle.std.proofs.Common.{refl}
use Rattle.roll.specs.Reading.{is_roll}
use Rattle.roll.specs.HoldingLaws.{held-past, held_by}
use Rattle.roll.proofs.Parts.{tested}
use Rattle.roll.proofs.judge.is_roll.Goals as goal

pub returns : goal.returns
returns c =
    let s = c.args.lent.now in
    let n = c.args.count in
    tested s n is_roll c.get.result (held-past s n) (λ h. held_by s n h refl) c.get.ensures.lookup.0 c.is_some_and.ensures
