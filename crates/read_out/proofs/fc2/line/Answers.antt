use mathlib.Core.Path.{◌≡◌, refl, ◌∙◌}
use Prim.Native.Nat.{◌+◌, ◌*◌, ◌<◌}
use native.Mathlib.Omega.{arith}
use Rattle.lists.specs.Tab.{times_none, times_more}
use Rattle.blocks.specs.Block.{block, put_block}
use Rattle.tables.specs.Conditions.{index_at}
use Rattle.blocks.specs.Inside.{inside-atom, inside-block, inside-small}
use Rattle.read_out.specs.Copies.{copy_legs}
use Rattle.read_out.proofs.fc2.line.Goals as goal

pub loop-j-init : goal.loop-j-init
loop-j-init c = (omega arith, refl, times_none _ _)

pub perms_at-image-requires : goal.perms_at-image-requires
perms_at-image-requires c = (c.requires.along c.loop-j.j (omega arith)).0

pub index_of-b-requires : goal.index_of-b-requires
index_of-b-requires c =
    let a = c.args in
    let l = c.loop-j in
    let k = inside-small a.tables.now.n_satom 9 0 _ _ (omega arith) (omega arith) (inside-atom a.tables.now.n_satom 9 0 a.first.0 _ l.j (omega arith) c.requires.blocks_in.0) in
    omega arith

pub index_of-f-requires : goal.index_of-f-requires
index_of-f-requires c =
    let a = c.args in
    let l = c.loop-j in
    let p = c.perms_at-image in
    let i = (c.requires.along l.j (omega arith)).1 in
    let g : p.result.0 < a.tables.now.n_satom = omega (arith, p.ensures) in
    let k = inside-small a.tables.now.n_satom 9 0 _ _ (omega arith) (omega arith) (inside-atom a.tables.now.n_satom 9 0 a.home.0 _ p.result.0 g c.requires.blocks_in.1) in
    omega arith

pub read9-v-requires : goal.read9-v-requires
read9-v-requires c =
    let a = c.args in
    let l = c.loop-j in
    let p = c.perms_at-image in
    let i = (c.requires.along l.j (omega arith)).1 in
    let g : p.result.0 < a.tables.now.n_satom = omega (arith, p.ensures) in
    rw c.index_of-f.ensures
    (inside-block a.tables.now.n_satom 9 (a.home.0 * a.tables.now.n_satom + p.result.0) _ (inside-atom a.tables.now.n_satom 9 0 a.home.0 _ p.result.0 g c.requires.blocks_in.1))

pub write9-requires : goal.write9-requires
write9-requires c =
    let a = c.args in
    let l = c.loop-j in
    rw (c.index_of-b.ensures, l.invariant.1)
    (inside-block a.tables.now.n_satom 9 (a.first.0 * a.tables.now.n_satom + l.j) _ (inside-atom a.tables.now.n_satom 9 0 a.first.0 _ l.j (omega arith) c.requires.blocks_in.0))

pub loop-j-preserved : goal.loop-j-preserved
unfolding copy_legs
loop-j-preserved c =
    let a = c.args in
    let l = c.loop-j in
    let p = c.perms_at-image in
    let r : c.write9.new.fc ≡ put_block 9 (a.first.0 * a.tables.now.n_satom + l.j) (block 9 (a.home.0 * a.tables.now.n_satom + index_at a.tables.now.perms.now (a.t * a.tables.now.n_satom + l.j)) a.fc2.now) l.full =
    c.write9.ensures ∙ rw (c.read9-v.ensures, c.index_of-b.ensures, c.index_of-f.ensures, p.ensures) in
    (omega arith, c.write9.auto.fc ∙ l.invariant.1, times_more l.j (λ k. copy_legs a.tables.now.perms.now a.tables.now.n_satom 9 a.t 0 (a.first.0 * a.tables.now.n_satom + k) (a.home.0 * a.tables.now.n_satom + index_at a.tables.now.perms.now (a.t * a.tables.now.n_satom + k)) a.fc2.now) a.full.now l.invariant.2 r)

pub returns : goal.returns
unfolding copy_legs
returns c =
    let l = c.loop-j in
    let i : l.j ≡ c.args.tables.now.n_satom = omega arith in
    l.invariant.2 ∙ rw i
