use mathlib.Core.Path.{sym, ap, ◌∙◌}
use Rattle.roll.specs.HoldingLaws.{is_framed}
use Rattle.roll.specs.ReadCalls.{read_by}
use Rattle.roll.proofs.reading.read_at.Goals as goal

pub read_by-requires : goal.read_by-requires
read_by-requires c = λ e. is_framed c.args.b.now (sym c.is_whole_roll.ensures ∙ e)

pub returns : goal.returns
returns c =
    let a = c.args in
    c.read_by.ensures ∙ ap (λ ok. read_by ok a.b.now a.at) c.is_whole_roll.ensures
