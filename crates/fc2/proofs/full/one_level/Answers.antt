use Rattle.fc2.specs.FullLoops.{swept}
use Rattle.fc2.proofs.full.one_level.Goals as goal

pub returns : goal.returns
unfolding swept
returns c =
    rw (c.row_drift.ensures, c.column_drift.ensures) at c.set_index_permutation_symmetry_fc.ensures
