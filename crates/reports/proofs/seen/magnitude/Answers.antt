use Rattle.reports.specs.Floats.{magnitude_less, magnitude_zero, magnitude_more}
use lib.Dec.{T}
use mathlib.Core.Path.{sym, subst}
use Rattle.reports.proofs.seen.magnitude.Goals as goal

pub returns-then-x : goal.returns-then-x
returns-then-x c = magnitude_less c.args.x c.if-x.true

pub returns-then-x-2 : goal.returns-then-x-2
returns-then-x-2 c = magnitude_zero c.args.x (subst T (sym c.well_formed.0.1) tt) c.if-x-2.true

pub returns : goal.returns
returns c = magnitude_more c.args.x c.if-x.false c.if-x-2.false
