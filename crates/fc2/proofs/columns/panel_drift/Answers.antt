use Rattle.fc2.specs.FullLoops.{panel_drift}
use Rattle.fc2.proofs.columns.panel_drift.Goals as goal

pub returns : goal.returns
unfolding panel_drift
returns c =
    rw (c.scale8-d.ensures, c.panel_sums-s.ensures) at c.take_panel.ensures
