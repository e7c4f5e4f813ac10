use mathlib.Core.Path.{sym, ap}
use Rattle.drift.specs.Drift.{answer_of}
use Rattle.drift.proofs.answer.Goals as goal

pub returns-in-Err : goal.returns-in-Err
returns-in-Err c = ap answer_of (sym c.in-Err.is)
