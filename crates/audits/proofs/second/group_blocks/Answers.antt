use Prim.Native.Nat.{◌<◌}
use mathlib.Core.Path.{◌≡◌, ap, ◌∙◌}
use Rattle.tables.specs.Conditions.{index_at}
use Rattle.places.specs.ReadOuts.{stored_in}
use Rattle.audits.specs.SecondScanLaws.{same-atoms, read-tables, other-below, satoms_pos, p2s-read, found_are}
use Rattle.audits.proofs.second.group_blocks.Goals as goal

pub column_of-requires : goal.column_of-requires
column_of-requires c = satoms_pos _ c.requires.0 c.args.b c.requires.1

pub row_of-requires : goal.row_of-requires
row_of-requires c = satoms_pos _ c.requires.0 c.args.b c.requires.1

pub p2s_at-i-requires : goal.p2s_at-i-requires
p2s_at-i-requires c = rw c.row_of.ensures (p2s-read _ c.requires.0 c.args.b c.requires.1).0

pub stored_block2-ij-requires : goal.stored_block2-ij-requires
stored_block2-ij-requires c =
    let i : c.p2s_at-i.result.0 < c.args.tables.now.n_satom = rw (c.p2s_at-i.ensures, c.row_of.ensures) (p2s-read _ c.requires.0 c.args.b c.requires.1).1 in
    let j : c.column_of.result < c.args.tables.now.n_satom = rw c.column_of.ensures (other-below _ c.requires.0 c.args.b c.requires.1) in
    (read-tables _ c.requires.0 c.args.b c.requires.1, i, j)

pub stored_block2-ji-requires : goal.stored_block2-ji-requires
stored_block2-ji-requires c =
    let i : c.p2s_at-i.result.0 < c.args.tables.now.n_satom = rw (c.p2s_at-i.ensures, c.row_of.ensures) (p2s-read _ c.requires.0 c.args.b c.requires.1).1 in
    let j : c.column_of.result < c.args.tables.now.n_satom = rw c.column_of.ensures (other-below _ c.requires.0 c.args.b c.requires.1) in
    (read-tables _ c.requires.0 c.args.b c.requires.1, j, i)

pub returns : goal.returns
returns c =
    let a = c.args in
    let f = stored_in a.tables.now.n_satom a.tables.now.s2pp.now a.tables.now.nsym_list.now a.tables.now.perms.now in
    let ei : c.p2s_at-i.result.0 ≡ index_at a.tables.now.p2s.now _ = c.p2s_at-i.ensures ∙ ap (index_at a.tables.now.p2s.now) c.row_of.ensures in
    same-atoms f c.stored_block2-ij.ensures c.stored_block2-ji.ensures c.column_of.ensures
    ∙ found_are _ c.requires.0 c.args.b c.requires.1 _ ei
