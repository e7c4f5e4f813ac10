use mathlib.Core.Path.{◌≡◌, refl, ◌∙◌}
use Prim.Native.Nat.{◌+◌, ◌*◌, ◌<◌}
use native.Mathlib.Omega.{arith}
use Rattle.lists.specs.Tab.{times_none, times_more}
use Rattle.tables.specs.Conditions.{index_at}
use Rattle.blocks.specs.Inside.{inside-atom, inside-small}
use Rattle.read_out.specs.Copies.{copy_legs}
use Rattle.read_out.proofs.fc4.slab.Goals as goal

pub loop-j-init : goal.loop-j-init
loop-j-init c = (omega arith, refl, times_none _ _)

pub perms_at-image-requires : goal.perms_at-image-requires
perms_at-image-requires c = (c.requires.along c.loop-j.j (omega arith)).0

pub index_of-b-requires : goal.index_of-b-requires
index_of-b-requires c =
    let a = c.args in
    let l = c.loop-j in
    let k = inside-small a.tables.now.n_satom 81 2 _ _ (omega arith) (omega arith) (inside-atom a.tables.now.n_satom 81 2 a.to _ l.j (omega arith) c.requires.blocks_in.0) in
    omega arith

pub index_of-f-requires : goal.index_of-f-requires
index_of-f-requires c =
    let a = c.args in
    let l = c.loop-j in
    let p = c.perms_at-image in
    let i = (c.requires.along l.j (omega arith)).1 in
    let g : p.result.0 < a.tables.now.n_satom = omega (arith, p.ensures) in
    let k = inside-small a.tables.now.n_satom 81 2 _ _ (omega arith) (omega arith) (inside-atom a.tables.now.n_satom 81 2 a.from _ p.result.0 g c.requires.blocks_in.1) in
    omega arith

pub plane-requires : goal.plane-requires
plane-requires c =
    let a = c.args in
    let l = c.loop-j in
    let p = c.perms_at-image in
    let i = (c.requires.along l.j (omega arith)).1 in
    let g : p.result.0 < a.tables.now.n_satom = omega (arith, p.ensures) in rw (c.index_of-b.ensures, c.index_of-f.ensures, l.invariant.1) (record { along = c.requires.along; blocks_in = (inside-atom a.tables.now.n_satom 81 2 a.to _ l.j (omega arith) c.requires.blocks_in.0, inside-atom a.tables.now.n_satom 81 2 a.from _ p.result.0 g c.requires.blocks_in.1) })

pub loop-j-preserved : goal.loop-j-preserved
unfolding copy_legs
loop-j-preserved c =
    let a = c.args in
    let l = c.loop-j in
    let p = c.perms_at-image in
    let r : c.plane.new.full ≡ copy_legs a.tables.now.perms.now a.tables.now.n_satom 81 a.t 2 (a.to * a.tables.now.n_satom + l.j) (a.from * a.tables.now.n_satom + index_at a.tables.now.perms.now (a.t * a.tables.now.n_satom + l.j)) a.fc4.now l.full =
    ◌∙◌ {b = copy_legs a.tables.now.perms.now a.tables.now.n_satom 81 a.t 2 c.index_of-b.result c.index_of-f.result a.fc4.now l.full}
    c.plane.ensures (rw (c.index_of-b.ensures, c.index_of-f.ensures, p.ensures)) in
    (omega arith, c.plane.auto.full ∙ l.invariant.1, times_more l.j (λ k. copy_legs a.tables.now.perms.now a.tables.now.n_satom 81 a.t 2 (a.to * a.tables.now.n_satom + k) (a.from * a.tables.now.n_satom + index_at a.tables.now.perms.now (a.t * a.tables.now.n_satom + k)) a.fc4.now) a.full.now l.invariant.2 r)

pub returns : goal.returns
unfolding copy_legs
returns c =
    let l = c.loop-j in
    let i : l.j ≡ c.args.tables.now.n_satom = omega arith in
    l.invariant.2 ∙ rw i
