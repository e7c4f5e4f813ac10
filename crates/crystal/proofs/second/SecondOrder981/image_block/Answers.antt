use Prim.Native.Nat.{◌+◌, ◌*◌, ◌<◌}
use native.Mathlib.Nat.{mod-lt}
use mathlib.Core.Path.{ap, ◌∙◌}
use Rattle.tables.specs.Conditions.{index_at}
use Rattle.tables.specs.Compact.{ShiftTables, given}
use Rattle.crystal.specs.SecondImages as images
use Rattle.crystal.proofs.second.SecondOrder981.image_block.Goals as goal

pub column_of-requires : goal.column_of-requires
column_of-requires c = images.satoms_pos _ c.requires.0 c.args.b c.requires.2

pub row_of-requires : goal.row_of-requires
row_of-requires c = images.satoms_pos _ c.requires.0 c.args.b c.requires.2

pub p2s_at-i-requires : goal.p2s_at-i-requires
p2s_at-i-requires c = rw c.row_of.ensures (images.p2s-read _ c.requires.0 c.args.b c.requires.2).0

pub image-x-requires : goal.image-x-requires
image-x-requires c =
    let i : c.p2s_at-i.result.0 < c.args.tables.now.n_satom = rw (c.p2s_at-i.ensures, c.row_of.ensures) (images.p2s-read _ c.requires.0 c.args.b c.requires.2).1 in
    (c.requires.1.each _ i).0

pub image-y-requires : goal.image-y-requires
image-y-requires c =
    let j : c.column_of.result < c.args.tables.now.n_satom = rw c.column_of.ensures (mod-lt c.args.b (images.satoms_pos _ c.requires.0 c.args.b c.requires.2)) in
    (c.requires.1.each _ j).0

pub stored_block2-requires : goal.stored_block2-requires
stored_block2-requires c =
    let i : c.p2s_at-i.result.0 < c.args.tables.now.n_satom = rw (c.p2s_at-i.ensures, c.row_of.ensures) (images.p2s-read _ c.requires.0 c.args.b c.requires.2).1 in
    let j : c.column_of.result < c.args.tables.now.n_satom = rw c.column_of.ensures (mod-lt c.args.b (images.satoms_pos _ c.requires.0 c.args.b c.requires.2)) in
    let x : c.image-x.result.0 < c.args.tables.now.n_satom = rw c.image-x.ensures (c.requires.1.each _ i).1 in
    let y : c.image-y.result.0 < c.args.tables.now.n_satom = rw c.image-y.ensures (c.requires.1.each _ j).1 in
    (images.read-tables _ c.requires.0 c.args.b c.requires.2, x, y)

pub returns : goal.returns
returns c =
    let a = c.args in
    let T : ShiftTables = given a.tables.now in
    images.image_is T c.requires.0 a.b c.requires.2 a.operations.now a.r
    (c.p2s_at-i.ensures ∙ ap (index_at a.tables.now.p2s.now) c.row_of.ensures) c.image-x.ensures
    (c.image-y.ensures ∙ ap (λ j. index_at a.operations.now (a.r * a.tables.now.n_satom + j)) c.column_of.ensures) c.stored_block2.ensures
