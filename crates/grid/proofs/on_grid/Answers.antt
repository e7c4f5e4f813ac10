use mathlib.Core.Path.{sym, ap, ◌∙◌, subst}
use lib.Dec.{T}
use lib.Ieee.{eq, binary64, mul, of_bits, neg}
use Rattle.grid.specs.GridTestLaws.{top, not-below, not_above, between}
use Rattle.grid.proofs.on_grid.Goals as goal

pub returns-then-x-2 : goal.returns-then-x-2
unfolding of_bits neg
returns-then-x-2 c =
    ap (λ z. eq z (mul binary64 c.args.x top)) c.round.ensures ∙ between c.args.x (subst T (sym c.well_formed.0.1) tt) c.if-x.true c.if-x-2.true

pub returns-else-x-2 : goal.returns-else-x-2
unfolding of_bits neg
returns-else-x-2 c = not_above c.args.x c.if-x-2.false

pub returns-else-x : goal.returns-else-x
returns-else-x c = not-below c.args.x c.if-x.false
