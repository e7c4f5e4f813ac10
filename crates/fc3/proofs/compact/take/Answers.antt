use Prim.Native.Nat.{◌<◌}
use Rattle.fc3.specs.Loops.{p2s-read, read-tables, Found, all_in, marks_in, took}
use Rattle.fc3.proofs.compact.take.Goals as goal

pub p2s_at-i-requires : goal.p2s_at-i-requires
p2s_at-i-requires c =
    (p2s-read _ _ _ _ c.requires.ready c.args.p.0 c.args.j.0 c.args.k.0 c.requires.atoms).0

pub stored_block3-jik-requires : goal.stored_block3-jik-requires
stored_block3-jik-requires c =
    let v : c.p2s_at-i.result.0 < c.args.tables.now.n_satom = rw c.p2s_at-i.ensures (p2s-read _ _ _ _ c.requires.ready c.args.p.0 c.args.j.0 c.args.k.0 c.requires.atoms).1 in
    (read-tables _ _ _ _ c.requires.ready, c.requires.atoms.1, v, c.requires.atoms.2)

pub stored_block3-jki-requires : goal.stored_block3-jki-requires
stored_block3-jki-requires c =
    let v : c.p2s_at-i.result.0 < c.args.tables.now.n_satom = rw c.p2s_at-i.ensures (p2s-read _ _ _ _ c.requires.ready c.args.p.0 c.args.j.0 c.args.k.0 c.requires.atoms).1 in
    (read-tables _ _ _ _ c.requires.ready, c.requires.atoms.1, c.requires.atoms.2, v)

pub stored_block3-kij-requires : goal.stored_block3-kij-requires
stored_block3-kij-requires c =
    let v : c.p2s_at-i.result.0 < c.args.tables.now.n_satom = rw c.p2s_at-i.ensures (p2s-read _ _ _ _ c.requires.ready c.args.p.0 c.args.j.0 c.args.k.0 c.requires.atoms).1 in
    (read-tables _ _ _ _ c.requires.ready, c.requires.atoms.2, v, c.requires.atoms.1)

pub stored_block3-kji-requires : goal.stored_block3-kji-requires
stored_block3-kji-requires c =
    let v : c.p2s_at-i.result.0 < c.args.tables.now.n_satom = rw c.p2s_at-i.ensures (p2s-read _ _ _ _ c.requires.ready c.args.p.0 c.args.j.0 c.args.k.0 c.requires.atoms).1 in
    (read-tables _ _ _ _ c.requires.ready, c.requires.atoms.2, c.requires.atoms.1, v)

pub mark-requires : goal.mark-requires
mark-requires c =
    let a = c.args in
    let f : Found _ _ _ _ c.requires.ready a.p.0 a.j.0 a.k.0 c.requires.atoms c.p2s_at-i.result.0 c.block3-ijk.result c.block3-ikj.result c.stored_block3-jik.result c.stored_block3-jki.result c.stored_block3-kij.result c.stored_block3-kji.result =
    record { rep = c.p2s_at-i.ensures; ijk = c.block3-ijk.ensures; ikj = c.block3-ikj.ensures; jik = c.stored_block3-jik.ensures; jki = c.stored_block3-jki.ensures; kij = c.stored_block3-kij.ensures; kji = c.stored_block3-kji.ensures } in
    rw c.requires.ready.work-length
    (marks_in _ _ _ _ c.requires.ready a.p.0 a.j.0 a.k.0 c.requires.atoms _ _ _ _ _ _ _ f)

pub work_group-requires : goal.work_group-requires
work_group-requires c =
    let a = c.args in
    let f : Found _ _ _ _ c.requires.ready a.p.0 a.j.0 a.k.0 c.requires.atoms c.p2s_at-i.result.0 c.block3-ijk.result c.block3-ikj.result c.stored_block3-jik.result c.stored_block3-jki.result c.stored_block3-kij.result c.stored_block3-kji.result =
    record { rep = c.p2s_at-i.ensures; ijk = c.block3-ijk.ensures; ikj = c.block3-ikj.ensures; jik = c.stored_block3-jik.ensures; jki = c.stored_block3-jki.ensures; kij = c.stored_block3-kij.ensures; kji = c.stored_block3-kji.ensures } in
    all_in _ _ _ _ c.requires.ready a.p.0 a.j.0 a.k.0 c.requires.atoms _ _ _ _ _ _ _ f

pub returns : goal.returns
returns c =
    let a = c.args in
    let f : Found _ _ _ _ c.requires.ready a.p.0 a.j.0 a.k.0 c.requires.atoms c.p2s_at-i.result.0 c.block3-ijk.result c.block3-ikj.result c.stored_block3-jik.result c.stored_block3-jki.result c.stored_block3-kij.result c.stored_block3-kji.result =
    record { rep = c.p2s_at-i.ensures; ijk = c.block3-ijk.ensures; ikj = c.block3-ikj.ensures; jik = c.stored_block3-jik.ensures; jki = c.stored_block3-jki.ensures; kij = c.stored_block3-kij.ensures; kji = c.stored_block3-kji.ensures } in
    took _ _ _ _ c.requires.ready a.p.0 a.j.0 a.k.0 c.requires.atoms _ _ _ _ _ _ _ f a.fc3.now a.done.now c.work_group.ensures c.mark.ensures
