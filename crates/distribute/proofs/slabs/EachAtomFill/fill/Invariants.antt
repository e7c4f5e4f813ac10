use mathlib.Core.Path.{◌≡◌}
use mathlib.Core.List.{List}
use Prim.Native.Nat.{◌+◌, ◌*◌}
use lib.Ieee.{Float}
use Rattle.lists.specs.Tab.{times}
use Rattle.tables.specs.Conditions.{index_at}
use Rattle.rotations.specs.Rotation.{coefficients, rotated}
use Rattle.distribute.specs.Slab.{move}
use Rattle.distribute.proofs.slabs.EachAtomFill.fill.Given as goal

abbrev pub invariant-loop-i : goal.invariant-loop-i
invariant-loop-i g l =
    let f = g.F.Fill in
    let b = g.F.Block.Order in
    (m : List Float) → l.c ≡ coefficients m b.legs b.width
    → l.fc ≡ times l.i (λ i. move l.atom_mapping l.num_atom b.width (rotated m b.legs) f.atoms (l.target * l.num_atom + i) (l.source * l.num_atom + index_at l.atom_mapping i)) l.initial.fc
