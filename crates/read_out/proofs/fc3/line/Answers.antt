use mathlib.Core.Path.{◌≡◌, refl, ◌∙◌}
use Prim.Native.Nat.{◌+◌, ◌*◌, ◌<◌}
use native.Mathlib.Omega.{arith}
use Rattle.lists.specs.Tab.{times_none, times_more}
use Rattle.blocks.specs.Block.{block, put_block}
use Rattle.tables.specs.Conditions.{index_at}
use Rattle.blocks.specs.Inside.{inside-atom, inside-block, inside-small}
use Rattle.read_out.specs.Copies.{copy_legs}
use Rattle.read_out.proofs.fc3.line.Goals as goal

pub loop-k-init : goal.loop-k-init
loop-k-init c = (omega arith, refl, times_none _ _)

pub perms_at-image-requires : goal.perms_at-image-requires
perms_at-image-requires c = (c.requires.along c.loop-k.k (omega arith)).0

pub index_of-b-requires : goal.index_of-b-requires
index_of-b-requires c =
    let a = c.args in
    let l = c.loop-k in
    let k = inside-small a.tables.now.n_satom 27 0 _ _ (omega arith) (omega arith) (inside-atom a.tables.now.n_satom 27 0 a.to _ l.k (omega arith) c.requires.blocks_in.0) in
    omega arith

pub index_of-f-requires : goal.index_of-f-requires
index_of-f-requires c =
    let a = c.args in
    let l = c.loop-k in
    let p = c.perms_at-image in
    let i = (c.requires.along l.k (omega arith)).1 in
    let g : p.result.0 < a.tables.now.n_satom = omega (arith, p.ensures) in
    let k = inside-small a.tables.now.n_satom 27 0 _ _ (omega arith) (omega arith) (inside-atom a.tables.now.n_satom 27 0 a.from _ p.result.0 g c.requires.blocks_in.1) in
    omega arith

pub read27-v-requires : goal.read27-v-requires
read27-v-requires c =
    let a = c.args in
    let l = c.loop-k in
    let p = c.perms_at-image in
    let i = (c.requires.along l.k (omega arith)).1 in
    let g : p.result.0 < a.tables.now.n_satom = omega (arith, p.ensures) in
    rw c.index_of-f.ensures
    (inside-block a.tables.now.n_satom 27 (a.from * a.tables.now.n_satom + p.result.0) _ (inside-atom a.tables.now.n_satom 27 0 a.from _ p.result.0 g c.requires.blocks_in.1))

pub write27-requires : goal.write27-requires
write27-requires c =
    let a = c.args in
    let l = c.loop-k in
    rw (c.index_of-b.ensures, l.invariant.1)
    (inside-block a.tables.now.n_satom 27 (a.to * a.tables.now.n_satom + l.k) _ (inside-atom a.tables.now.n_satom 27 0 a.to _ l.k (omega arith) c.requires.blocks_in.0))

pub loop-k-preserved : goal.loop-k-preserved
unfolding copy_legs
loop-k-preserved c =
    let a = c.args in
    let l = c.loop-k in
    let p = c.perms_at-image in
    let r : c.write27.new.fc ≡ put_block 27 (a.to * a.tables.now.n_satom + l.k) (block 27 (a.from * a.tables.now.n_satom + index_at a.tables.now.perms.now (a.t * a.tables.now.n_satom + l.k)) a.fc3.now) l.full =
    c.write27.ensures ∙ rw (c.read27-v.ensures, c.index_of-b.ensures, c.index_of-f.ensures, p.ensures) in
    (omega arith, c.write27.auto.fc ∙ l.invariant.1, times_more l.k (λ k. copy_legs a.tables.now.perms.now a.tables.now.n_satom 27 a.t 0 (a.to * a.tables.now.n_satom + k) (a.from * a.tables.now.n_satom + index_at a.tables.now.perms.now (a.t * a.tables.now.n_satom + k)) a.fc3.now) a.full.now l.invariant.2 r)

pub returns : goal.returns
unfolding copy_legs
returns c =
    let l = c.loop-k in
    let i : l.k ≡ c.args.tables.now.n_satom = omega arith in
    l.invariant.2 ∙ rw i
