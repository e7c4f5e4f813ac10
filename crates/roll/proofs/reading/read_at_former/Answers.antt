use mathlib.Core.Path.{sym, ap, ◌∙◌}
use Rattle.roll.specs.HoldingLaws.{former-framed}
use Rattle.roll.specs.ReadCalls.{read_by}
use Rattle.roll.proofs.reading.read_at_former.Goals as goal

pub read_by-requires : goal.read_by-requires
read_by-requires c = λ e. former-framed c.args.b.now (sym c.is_whole_roll_former.ensures ∙ e)

pub returns : goal.returns
returns c =
    let a = c.args in
    c.read_by.ensures ∙ ap (λ ok. read_by ok a.b.now a.at) c.is_whole_roll_former.ensures
