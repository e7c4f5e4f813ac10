use mathlib.Core.Path.{sym, ap, ◌∙◌}
use Rattle.roll.specs.HoldingLaws.{former-framed}
use Rattle.roll.specs.ReadCalls.{past_by}
use Rattle.roll.proofs.reading.past_at_former.Goals as goal

pub past_by-requires : goal.past_by-requires
past_by-requires c = λ e. former-framed c.args.b.now (sym c.is_whole_roll_former.ensures ∙ e)

pub returns : goal.returns
returns c =
    let a = c.args in
    c.past_by.ensures ∙ ap (λ ok. past_by ok a.b.now a.at) c.is_whole_roll_former.ensures
