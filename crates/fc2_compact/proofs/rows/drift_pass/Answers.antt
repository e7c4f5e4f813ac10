use lib.Dec.{le→leb}
use lib.Ieee.{in_float}
use mathlib.Core.Path.{◌∙◌}
use Prim.Native.Nat.{◌^◌}
use native.Mathlib.Omega.{arith}
use Rattle.lines.specs.Sums3x3.{inverse}
use Rattle.fc2_compact.specs.Code.{sized, drift_all}
use Rattle.fc2_compact.proofs.rows.drift_pass.Goals as goal

pub int_to_float-inv_n : goal.int_to_float-inv_n
unfolding in_float
int_to_float-inv_n c = le→leb c.args.tables.now.n_satom (2 ^ 53) (omega (arith, c.requires.fit.satoms))

pub row_drift-requires : goal.row_drift-requires
row_drift-requires c = sized c.requires

pub returns : goal.returns
unfolding inverse
returns c =
    c.row_drift.ensures ∙ drift_all c.args.fc.now c.requires
