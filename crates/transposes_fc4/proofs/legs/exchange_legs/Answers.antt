use mathlib.Core.Path.{ap, ◌∙◌}
use Rattle.tables.specs.Compact.{given}
use Rattle.transposes_fc4.specs.Loops.{pairs4}
use Rattle.transposes_fc4.proofs.RowsLaws.{two_legs}
use Rattle.transposes_fc4.proofs.legs.exchange_legs.Goals as goal

pub pairs_of-m-requires : goal.pairs_of-m-requires
pairs_of-m-requires c = (c.requires.1, c.requires.2, c.requires.3)

pub pairs-requires : goal.pairs-requires
pairs-requires c =
    (c.requires.0, two_legs c.args.leg_a c.args.leg_b c.requires.1 c.requires.2 c.requires.3 c.order_of-o.ensures c.pairs_of-m.ensures)

pub returns : goal.returns
returns c =
    c.pairs.ensures ∙ ap (λ o. pairs4 c.args.half_shifts_stay o (given c.args.tables.now) c.args.fc4.now) c.order_of-o.ensures
