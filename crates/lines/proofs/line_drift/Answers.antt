use Rattle.lines.specs.Lines.{line_drift}
use Rattle.lines.proofs.line_drift.Goals as goal

pub returns : goal.returns
unfolding line_drift
returns c =
    rw (c.scaled-d.ensures, c.line_sums-s.ensures) at c.take_drift.ensures
