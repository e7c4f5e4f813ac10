use mathlib.Core.Path.{◌≡◌, ◌∙◌}
use mathlib.Core.List.{List}
use Prim.Native.Nat.{◌+◌, ◌*◌, ◌<◌}
use native.Mathlib.Omega.{arith}
use lib.Ieee.{Float}
use Rattle.lists.specs.Tab.{times_none, times_more}
use Rattle.tables.specs.Conditions.{index_at, read}
use Rattle.rotations.specs.Rotation.{coefficients, rotated}
use Rattle.distribute.specs.Slab.{move}
use Rattle.blocks.specs.Inside.{inside-atom, inside-small}
use Rattle.distribute.proofs.slabs.EachAtomFill.fill.Goals as goal

pub loop-i-init : goal.loop-i-init
loop-i-init g c = λ m e. times_none _ _

pub entry-image-requires : goal.entry-image-requires
entry-image-requires g c = (read c.requires.index_table c.loop-i.i (omega arith)).0

pub index_of-t-requires : goal.index_of-t-requires
index_of-t-requires g c =
    let l = c.loop-i in
    let a = c.args in
    let f = g.F.Fill in
    let b = g.F.Block.Order in
    let k = inside-small a.num_atom b.width f.atoms _ _ b.some (omega arith) (inside-atom a.num_atom b.width f.atoms a.target _ l.i (omega arith) c.requires.blocks_in.0) in
    omega arith

pub index_of-s-requires : goal.index_of-s-requires
index_of-s-requires g c =
    let l = c.loop-i in
    let a = c.args in
    let f = g.F.Fill in
    let b = g.F.Block.Order in
    let i = (read c.requires.index_table l.i (omega arith)).1 in
    let h : c.entry-image.result < a.num_atom = omega (arith, c.entry-image.ensures) in
    let k = inside-small a.num_atom b.width f.atoms _ _ b.some (omega arith) (inside-atom a.num_atom b.width f.atoms a.source _ c.entry-image.result h c.requires.blocks_in.1) in
    omega arith

pub fill-requires : goal.fill-requires
fill-requires g c =
    let l = c.loop-i in
    let a = c.args in
    let f = g.F.Fill in
    let b = g.F.Block.Order in
    let i = (read c.requires.index_table l.i (omega arith)).1 in
    let h : c.entry-image.result < a.num_atom = omega (arith, c.entry-image.ensures) in rw (c.index_of-t.ensures, c.index_of-s.ensures, l.auto.fc) (omega (arith, b.small), (c.requires.index_table, (inside-atom a.num_atom b.width f.atoms a.target _ l.i (omega arith) c.requires.blocks_in.0, inside-atom a.num_atom b.width f.atoms a.source _ c.entry-image.result h c.requires.blocks_in.1)))

pub loop-i-preserved : goal.loop-i-preserved
unfolding move
loop-i-preserved g c =
    let l = c.loop-i in
    let a = c.args in
    let f = g.F.Fill in
    let b = g.F.Block.Order in
    let r : (m : List Float) → a.c.now ≡ coefficients m b.legs b.width
    → c.fill.new.fc ≡ move a.atom_mapping.now a.num_atom b.width (rotated m b.legs) f.atoms (a.target * a.num_atom + l.i) (a.source * a.num_atom + index_at a.atom_mapping.now l.i) l.fc = λ m q.
    c.fill.ensures m q ∙ rw (c.index_of-t.ensures, c.index_of-s.ensures, c.entry-image.ensures) in
    λ m q. times_more l.i _ _ (l.invariant m q) (r m q)

pub returns : goal.returns
unfolding move
returns g c =
    let l = c.loop-i in
    let i : l.i ≡ c.args.num_atom = omega arith in
    λ m e. l.invariant m e ∙ rw i
