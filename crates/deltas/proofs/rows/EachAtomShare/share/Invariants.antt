use mathlib.Core.Path.{◌≡◌}
use mathlib.Core.List.{List}
use Prim.Native.Nat.{◌+◌, ◌*◌}
use lib.Ieee.{Float}
use Rattle.lists.specs.Tab.{times}
use Rattle.tables.specs.Conditions.{index_at}
use Rattle.rotations.specs.Rotation.{coefficients, rotated}
use Rattle.deltas.specs.Rows.{spread}
use Rattle.deltas.proofs.rows.EachAtomShare.share.Given as goal

abbrev pub invariant-loop-j : goal.invariant-loop-j
invariant-loop-j g l =
    let f = g.S.Share in
    let b = g.S.Block.Order in
    (m : List Float) → l.c ≡ coefficients m b.legs b.width
    → l.res
    ≡ times l.j
    (λ j. spread (λ i. index_at l.rot_map_syms (l.s * l.num_atom + i)) l.num_atom b.width l.u (rotated m b.legs) l.deltas f.atoms (l.target * l.num_atom + j) (l.source * l.num_atom + index_at l.rot_map_syms (l.s * l.num_atom + j)))
    l.initial.res
