use lib.IntN.{pos}
use mir.ValLaws.{to_z_pos}
use mir.Val.{to_z}
use mir.Syntax.{w64}
use Rattle.distances.specs.Near.{distance}
use Rattle.matching.proofs.SearchLaws.{place_at, place_out}
use native.Mathlib.Omega.{arith}
use mathlib.Core.Path.{◌≡◌}
use Rattle.matching.proofs.slots.place.Goals as goal

pub returns-then-j-rot_atom : goal.returns-then-j-rot_atom
returns-then-j-rot_atom c =
    let a = c.args in
    let f = c.find-f.ensures in
    let e : to_z w64 a.i ≡ pos a.i = to_z_pos w64 a.i (omega arith) in
    (rw e (place_at (distance a.cell a.pos.now a.rot_pos.now) a.rot_atom.now a.i _ f.0), f.1)

pub returns-else-j-rot_atom : goal.returns-else-j-rot_atom
returns-else-j-rot_atom c =
    let a = c.args in
    let f = c.find-f.ensures in
    (place_out (distance a.cell a.pos.now a.rot_pos.now) a.rot_atom.now a.i _ f.0 c.if-j-rot_atom.false, f.1)
