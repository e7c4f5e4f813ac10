use mathlib.Core.Bool.{false}
use mathlib.Core.Path.{refl}
use lib.Dec.{lit<}
use Rattle.tables.specs.Compact.{given}
use Rattle.orbits.specs.HalfShift.{prim_small, read-tables, rep-read}
use Rattle.transposes_fc3.specs.Fc3Loops.{Atoms, at3, none_stays, other_0, found_in, found-met, found-now}
use Rattle.transposes_fc3.proofs.visit0.Goals as goal

pub block3-n-requires : goal.block3-n-requires
block3-n-requires c =
    let M = c.requires.0 in
    (M.trading.sound.fit.satoms, prim_small _ M.trading.sound c.args.p.0 M.first, M.second, c.requires.1)

pub stored_block3-o-requires : goal.stored_block3-o-requires
stored_block3-o-requires c =
    let M = c.requires.0 in
    let Z = M.trading.sound in
    (read-tables _ Z, M.second, rw M.rep (rep-read _ Z _ M.first).1, c.requires.1)

pub exchange0-requires : goal.exchange0-requires
exchange0-requires c =
    let a = c.args in
    let M = c.requires.0 in
    let T = given a.tables.now in
    let at : Atoms T a.p.0 a.j.0 a.k.0 = (M.first, M.second, c.requires.1) in
    let e = other_0 T M.trading.sound a.p.0 a.j.0 a.k.0 at 0 c.stored_block3-o.result a.i.0 refl M.rep c.stored_block3-o.ensures in
    found_in false T M.trading 0 a.p.0 a.j.0 a.k.0 (lit< tt) at _ _ c.block3-n.ensures e

pub returns-then-n-o : goal.returns-then-n-o
returns-then-n-o c =
    let a = c.args in
    let M = c.requires.0 in
    let T = given a.tables.now in
    let at : Atoms T a.p.0 a.j.0 a.k.0 = (M.first, M.second, c.requires.1) in
    let e = other_0 T M.trading.sound a.p.0 a.j.0 a.k.0 at 0 c.stored_block3-o.result a.i.0 refl M.rep c.stored_block3-o.ensures in
    found-now false T M.trading 0 a.p.0 a.j.0 a.k.0 (lit< tt) at _ _ c.block3-n.ensures e c.if-n-o.true (none_stays T 0 (at3 T a.p.0 a.j.0 a.k.0) (lit< tt)) a.fc3.now c.exchange0.ensures

pub returns-else-n-o : goal.returns-else-n-o
returns-else-n-o c =
    let a = c.args in
    let M = c.requires.0 in
    let T = given a.tables.now in
    let at : Atoms T a.p.0 a.j.0 a.k.0 = (M.first, M.second, c.requires.1) in
    let e = other_0 T M.trading.sound a.p.0 a.j.0 a.k.0 at 0 c.stored_block3-o.result a.i.0 refl M.rep c.stored_block3-o.ensures in
    found-met false T M.trading 0 a.p.0 a.j.0 a.k.0 (lit< tt) at _ _ c.block3-n.ensures e c.if-n-o.false a.fc3.now
