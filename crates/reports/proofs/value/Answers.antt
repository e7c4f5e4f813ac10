use Rattle.reports.specs.Report.{value_of}
use mathlib.Core.Path.{sym, ap}
use lib.Ieee.{div, of_bits}
use Rattle.reports.proofs.value.Goals as goal

pub returns-in-NoNumber : goal.returns-in-NoNumber
unfolding div of_bits
returns-in-NoNumber c = ap value_of (sym c.in-NoNumber.is)
