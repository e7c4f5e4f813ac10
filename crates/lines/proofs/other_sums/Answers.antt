use Rattle.lines.specs.Lines.{others, run_before, run_after, own_fits}
use native.Mathlib.Omega.{arith}
use Rattle.lines.proofs.other_sums.Goals as goal

pub line_sums-s-requires : goal.line_sums-s-requires
line_sums-s-requires c = run_before c.requires

pub overflow_add-b : goal.overflow_add-b
overflow_add-b c = omega (arith, own_fits c.requires)

pub line_sums-requires : goal.line_sums-requires
line_sums-requires c = run_after c.requires

pub returns : goal.returns
unfolding others
returns c = rw c.line_sums-s.ensures at c.line_sums.ensures
