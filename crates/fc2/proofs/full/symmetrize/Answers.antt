use lib.Ieee.{in_float}
use lib.Dec.{le→leb}
use Rattle.fc2.specs.FullWorkLaws.{work_makes}
use Rattle.fc2.specs.FullLoops.{diagonals, worked}
use Rattle.lines.specs.Sums3x3.{inverse}
use Rattle.lists.specs.Tab.{times_none, times_more}
use mathlib.Core.Path.{◌≡◌, refl, ap, ◌∙◌}
use native.Mathlib.Omega.{arith}
use Prim.Native.Nat.{◌^◌}
use Rattle.fc2.proofs.full.symmetrize.Goals as goal

pub int_to_float-inv_n : goal.int_to_float-inv_n
unfolding in_float
int_to_float-inv_n c = le→leb c.args.n (2 ^ 53) (omega (arith, c.requires))

pub loop-t-init : goal.loop-t-init
loop-t-init c = (omega arith, refl, times_none _ _)

pub one_level-requires : goal.one_level-requires
one_level-requires c = rw c.loop-t.invariant.1 c.requires

pub loop-t-preserved : goal.loop-t-preserved
loop-t-preserved c =
    let l = c.loop-t in
    (omega arith, c.one_level.auto.fc ∙ l.invariant.1, times_more l.t _ _ l.invariant.2 c.one_level.ensures)

pub set_translational_symmetry_fc-requires : goal.set_translational_symmetry_fc-requires
set_translational_symmetry_fc-requires c = rw c.loop-t.invariant.1 c.requires

pub returns : goal.returns
unfolding inverse worked
returns c =
    let l = c.loop-t in
    let i : l.t ≡ c.args.level = omega arith in
    c.set_translational_symmetry_fc.ensures ∙ ap (diagonals c.args.n) (l.invariant.2 ∙ rw i) ∙ work_makes c.args.n c.args.level c.args.fc.now c.requires.long
