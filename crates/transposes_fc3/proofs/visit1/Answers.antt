use Prim.Native.Nat.{◌<◌, ◌≤◌}
use native.Mathlib.Omega.{arith}
use mathlib.Core.Path.{refl, sym, ◌∙◌}
use lib.Dec.{lit<}
use Rattle.tables.specs.Compact.{given}
use Rattle.orbits.specs.HalfShift.{prim_small, read-tables, rep-read}
use Rattle.transposes_fc3.specs.Fc3Loops.{stay_1, other_1, found_in, found-met, found-stays, found-now}
use Rattle.transposes_fc3.proofs.visit1.Goals as goal

pub block3-n-requires : goal.block3-n-requires
block3-n-requires c =
    let Z = c.requires.trading.sound in
    (Z.fit.satoms, prim_small _ Z c.args.p.0 c.requires.atoms.0, c.requires.atoms.1, c.requires.atoms.2)

pub p2s_at-i-requires : goal.p2s_at-i-requires
p2s_at-i-requires c =
    (rep-read _ c.requires.trading.sound c.args.p.0 c.requires.atoms.0).0

pub stored_block3-o-requires : goal.stored_block3-o-requires
stored_block3-o-requires c =
    let Z = c.requires.trading.sound in
    let v : c.p2s_at-i.result.0 < c.args.tables.now.n_satom = rw c.p2s_at-i.ensures (rep-read _ Z c.args.p.0 c.requires.atoms.0).1 in
    (read-tables _ Z, c.requires.atoms.2, c.requires.atoms.1, v)

pub returns-then-o-n : goal.returns-then-o-n
returns-then-o-n c =
    let a = c.args in
    let R = c.requires.trading in
    let at = c.requires.atoms in
    let T = given a.tables.now in
    let e = other_1 T R.sound a.p.0 a.j.0 a.k.0 at 1 c.stored_block3-o.result c.p2s_at-i.result.0 refl c.p2s_at-i.ensures c.stored_block3-o.ensures in
    found-met a.half_shifts_stay T R 1 a.p.0 a.j.0 a.k.0 (lit< tt) at _ _ c.block3-n.ensures e c.if-o-n.true a.fc3.now

pub stays-requires : goal.stays-requires
stays-requires c =
    record { sound = c.requires.trading.sound; in_range = (c.requires.atoms.0, c.requires.atoms.2) }

pub returns-then-stays : goal.returns-then-stays
returns-then-stays c =
    let a = c.args in
    let R = c.requires.trading in
    let at = c.requires.atoms in
    let T = given a.tables.now in
    let e = other_1 T R.sound a.p.0 a.j.0 a.k.0 at 1 c.stored_block3-o.result c.p2s_at-i.result.0 refl c.p2s_at-i.ensures c.stored_block3-o.ensures in
    found-stays a.half_shifts_stay T R 1 a.p.0 a.j.0 a.k.0 (lit< tt) at _ _ c.block3-n.ensures e (sym (stay_1 T a.p.0 a.j.0 a.k.0 at a.half_shifts_stay) ∙ sym c.stays.ensures ∙ c.if-stays.true) a.fc3.now

pub exchange1-requires : goal.exchange1-requires
exchange1-requires c =
    let a = c.args in
    let R = c.requires.trading in
    let at = c.requires.atoms in
    let T = given a.tables.now in
    let e = other_1 T R.sound a.p.0 a.j.0 a.k.0 at 1 c.stored_block3-o.result c.p2s_at-i.result.0 refl c.p2s_at-i.ensures c.stored_block3-o.ensures in
    found_in a.half_shifts_stay T R 1 a.p.0 a.j.0 a.k.0 (lit< tt) at _ _ c.block3-n.ensures e

pub returns : goal.returns
returns c =
    let a = c.args in
    let R = c.requires.trading in
    let at = c.requires.atoms in
    let T = given a.tables.now in
    let e = other_1 T R.sound a.p.0 a.j.0 a.k.0 at 1 c.stored_block3-o.result c.p2s_at-i.result.0 refl c.p2s_at-i.ensures c.stored_block3-o.ensures in
    let l : c.block3-n.result ≤ c.stored_block3-o.result = omega arith in
    found-now a.half_shifts_stay T R 1 a.p.0 a.j.0 a.k.0 (lit< tt) at _ _ c.block3-n.ensures e l (sym (stay_1 T a.p.0 a.j.0 a.k.0 at a.half_shifts_stay) ∙ sym c.stays.ensures ∙ c.if-stays.false) a.fc3.now c.exchange1.ensures
