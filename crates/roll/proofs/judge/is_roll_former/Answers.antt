use Rattle.std.proofs.Common.{refl}
use Rattle.roll.specs.Reading.{is_former_roll}
use Rattle.roll.specs.HoldingLaws.{former-past, former-held}
use Rattle.roll.proofs.Parts.{tested}
use Rattle.roll.proofs.judge.is_roll_former.Goals as goal

pub returns : goal.returns
returns c =
    let s = c.args.lent.now in
    let n = c.args.count in
    tested s n is_former_roll c.get.result (former-past s n) (λ h. former-held s n h refl) c.get.ensures.lookup.0 c.is_some_and.ensures
