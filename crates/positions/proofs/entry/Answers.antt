use mathlib.Core.Path.{ap, ◌∙◌}
use lib.ListN.{get_or}
use Rattle.positions.specs.Positions.{at_entry}
use Rattle.positions.proofs.entry.Goals as goal

pub returns : goal.returns
returns c =
    ap (λ i. get_or c.args.t.now i 0) c.index_of.ensures ∙ at_entry c.args.t.now c.requires.0 c.args.s c.args.k c.requires.1 c.requires.2
