use Prim.Native.Nat.{◌≤◌}
use mathlib.Core.Bool.{false}
use mathlib.Core.Path.{refl, ◌∙◌}
use lib.Dec.{lit<}
use Rattle.tables.specs.Compact.{given}
use Rattle.orbits.specs.HalfShift.{prim_small}
use Rattle.transposes_fc3.specs.Fc3Loops.{at3, plain3, none_stays, other_2, rising, found_in, found-now}
use Rattle.transposes_fc3.proofs.visit2.Goals as goal

pub block3-n-requires : goal.block3-n-requires
block3-n-requires c =
    let Z = c.requires.trading.sound in
    (Z.fit.satoms, prim_small _ Z c.args.p.0 c.requires.atoms.0.0, c.requires.atoms.0.1, c.requires.atoms.0.2)

pub block3-o-requires : goal.block3-o-requires
block3-o-requires c =
    let Z = c.requires.trading.sound in
    (Z.fit.satoms, prim_small _ Z c.args.p.0 c.requires.atoms.0.0, c.requires.atoms.0.2, c.requires.atoms.0.1)

pub exchange2-requires : goal.exchange2-requires
exchange2-requires c =
    let a = c.args in
    let R = c.requires.trading in
    let at = c.requires.atoms.0 in
    let T = given a.tables.now in
    let e = other_2 T R.sound a.p.0 a.j.0 a.k.0 at 2 c.block3-o.result refl c.block3-o.ensures in
    found_in false T R 2 a.p.0 a.j.0 a.k.0 (lit< tt) at _ _ c.block3-n.ensures e

pub returns : goal.returns
returns c =
    let a = c.args in
    let R = c.requires.trading in
    let at = c.requires.atoms.0 in
    let T = given a.tables.now in
    let e = other_2 T R.sound a.p.0 a.j.0 a.k.0 at 2 c.block3-o.result refl c.block3-o.ensures in
    let n = a.tables.now.n_satom in
    let l : c.block3-n.result ≤ c.block3-o.result = rw (c.block3-n.ensures ∙ plain3 n a.p.0 a.j.0 a.k.0, c.block3-o.ensures ∙ plain3 n a.p.0 a.k.0 a.j.0) (rising n a.p.0 a.j.0 a.k.0 c.requires.atoms.1 at.2) in
    found-now false T R 2 a.p.0 a.j.0 a.k.0 (lit< tt) at _ _ c.block3-n.ensures e l (none_stays T 2 (at3 T a.p.0 a.j.0 a.k.0) (lit< tt)) a.fc3.now c.exchange2.ensures
