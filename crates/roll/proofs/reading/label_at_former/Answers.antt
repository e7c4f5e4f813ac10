use mathlib.Core.Path.{sym, ap, ◌∙◌}
use Rattle.roll.specs.HoldingLaws.{former-framed}
use Rattle.roll.specs.ReadCalls.{label_by}
use Rattle.roll.proofs.reading.label_at_former.Goals as goal

pub label_by-requires : goal.label_by-requires
label_by-requires c = λ e. former-framed c.args.b.now (sym c.is_whole_roll_former.ensures ∙ e)

pub returns : goal.returns
returns c =
    let a = c.args in
    c.label_by.ensures ∙ ap (λ ok. label_by ok a.b.now a.at) c.is_whole_roll_former.ensures
