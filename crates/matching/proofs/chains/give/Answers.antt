use mathlib.Core.Path.{◌≡◌}
use native.Mathlib.Omega.{arith}
use lib.IntN.{pos}
use mir.Val.{to_z}
use mir.Syntax.{w64}
use mir.ValLaws.{to_z_pos}
use Rattle.matching.proofs.chains.give.Goals as goal

pub returns : goal.returns
returns c =
    let a = c.args in
    let e : to_z w64 a.i ≡ pos a.i = to_z_pos w64 a.i (omega arith) in
    rw e
