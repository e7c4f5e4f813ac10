use mathlib.Core.Path.{ap, ◌∙◌}
use Rattle.transposes_fc4.specs.Rows.{taken_to}
use Rattle.transposes_fc4.proofs.RowsLaws.{row_below}
use Rattle.transposes_fc4.proofs.legs.pairs_of.Goals as goal

pub pair_row-requires : goal.pair_row-requires
pair_row-requires c = (c.requires.0, c.requires.1)

pub pairs_by-requires : goal.pairs_by-requires
pairs_by-requires c =
    (c.addresses-t.ensures, rw c.pair_row.ensures (row_below c.args.leg_a c.args.leg_b c.requires.0 c.requires.1 c.requires.2))

pub returns : goal.returns
returns c = c.pairs_by.ensures ∙ ap taken_to c.pair_row.ensures
