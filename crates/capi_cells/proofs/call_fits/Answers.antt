use mathlib.Core.Path.{refl, sym, ◌∙◌}
use Rattle.capi_cells.proofs.call_fits.Goals as goal

pub returns-then-cell_fits : goal.returns-then-cell_fits
returns-then-cell_fits c = rw (sym c.cell_fits.ensures ∙ c.if-cell_fits.true) refl

pub returns : goal.returns
returns c = rw (sym c.cell_fits.ensures ∙ c.if-cell_fits.false) refl
