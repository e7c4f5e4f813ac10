use mathlib.Core.Path.{◌≡◌, ◌∙◌}
use mathlib.Core.List.{List}
use Prim.Native.Nat.{ℕ, ◌+◌, ◌*◌, ◌<◌}
use native.Mathlib.Omega.{arith}
use lib.Ieee.{Float}
use Rattle.lists.specs.Tab.{times_none, times_more}
use Rattle.tables.specs.Conditions.{index_at}
use Rattle.rotations.specs.Rotation.{coefficients, rotated}
use Rattle.blocks.specs.Inside.{inside-atom, inside-small}
use Rattle.deltas.specs.Rows.{spread}
use Rattle.deltas.proofs.rows.EachAtomShare.share.Goals as goal

pub loop-j-init : goal.loop-j-init
loop-j-init g c = λ m e. times_none _ _

pub entry-image-requires : goal.entry-image-requires
entry-image-requires g c = (c.requires.images.image-at c.loop-j.j (omega arith)).0

pub index_of-t-requires : goal.index_of-t-requires
index_of-t-requires g c =
    let l = c.loop-j in
    let a = c.args in
    let f = g.S.Share in
    let b = g.S.Block.Order in
    let k = inside-small a.num_atom (3 * b.width) f.atoms _ _ (omega (arith, b.some)) (omega arith) (inside-atom a.num_atom (3 * b.width) f.atoms a.target _ l.j (omega arith) c.requires.blocks_in.0) in
    omega arith

pub index_of-f-requires : goal.index_of-f-requires
index_of-f-requires g c =
    let l = c.loop-j in
    let a = c.args in
    let f = g.S.Share in
    let b = g.S.Block.Order in
    let i = (c.requires.images.image-at l.j (omega arith)).1 in
    let h : c.entry-image.result < a.num_atom = omega (arith, c.entry-image.ensures) in
    let k = inside-small a.num_atom b.width f.atoms _ _ b.some (omega arith) (inside-atom a.num_atom b.width f.atoms a.source _ c.entry-image.result h c.requires.blocks_in.1) in
    omega arith

pub share-requires : goal.share-requires
share-requires g c =
    let l = c.loop-j in
    let a = c.args in
    let f = g.S.Share in
    let b = g.S.Block.Order in
    let i = (c.requires.images.image-at l.j (omega arith)).1 in
    let h : c.entry-image.result < a.num_atom = omega (arith, c.entry-image.ensures) in
    rw (c.index_of-t.ensures, c.index_of-f.ensures, l.auto.res) (
      omega (arith, b.small),
      (
        c.requires.images,
        (
          inside-atom a.num_atom (3 * b.width) f.atoms a.target _ l.j (omega arith) c.requires.blocks_in.0,
          inside-atom a.num_atom b.width f.atoms a.source _ c.entry-image.result h c.requires.blocks_in.1,
        ),
      ),
    )

pub loop-j-preserved : goal.loop-j-preserved
unfolding spread
loop-j-preserved g c =
    let l = c.loop-j in
    let a = c.args in
    let f = g.S.Share in
    let b = g.S.Block.Order in
    let im : ℕ → ℕ = λ i. index_at a.rot_map_syms.now (a.s * a.num_atom + i) in
    let r : (m : List Float) → a.c.now ≡ coefficients m b.legs b.width
    → c.share.new.res ≡ spread im a.num_atom b.width a.u (rotated m b.legs) a.deltas.now f.atoms (a.target * a.num_atom + l.j) (a.source * a.num_atom + im l.j) l.res = λ m q.
    c.share.ensures m q ∙ rw (c.index_of-t.ensures, c.index_of-f.ensures, c.entry-image.ensures) in
    λ m q. times_more l.j _ _ (l.invariant m q) (r m q)

pub returns : goal.returns
unfolding spread
returns g c =
    let l = c.loop-j in
    let i : l.j ≡ c.args.num_atom = omega arith in
    λ m e. l.invariant m e ∙ rw i
