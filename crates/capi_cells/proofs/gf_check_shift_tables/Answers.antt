use mathlib.Core.Path.{ap, ◌∙◌}
use Rattle.tables.specs.Answers.{number_of}
use Rattle.capi_cells.proofs.gf_check_shift_tables.Goals as goal

pub returns : goal.returns
returns c = c.number.ensures ∙ ap number_of c.check_shift_tables-a.ensures
