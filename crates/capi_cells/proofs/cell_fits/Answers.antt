use mathlib.Core.Path.{refl}
use borrow.Author.Tests.{eq-eqb, ne_eqb}
use Rattle.capi_cells.proofs.cell_fits.Goals as goal

pub returns-then-len_lattice-eq9 : goal.returns-then-len_lattice-eq9
returns-then-len_lattice-eq9 c = rw (eq-eqb c.args.len_lattice 9 c.if-len_lattice-eq9.true) refl

pub returns-else-len_lattice-eq9 : goal.returns-else-len_lattice-eq9
returns-else-len_lattice-eq9 c = rw (ne_eqb c.args.len_lattice 9 c.if-len_lattice-eq9.false) refl
