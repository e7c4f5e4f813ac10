use Prim.Native.Nat.{◌<◌}
use mathlib.Core.Path.{◌≡◌, refl, ap, ◌∙◌}
use Rattle.tables.specs.Conditions.{index_at}
use Rattle.places.specs.ReadOuts.{stored_in}
use Rattle.fc4.specs.Blocks.{read-tables, others_below, satoms_pos, p2s-read, found_are, joined_are, legs_are, same-atoms}
use Rattle.fc4.proofs.group.group_blocks.Goals as goal

pub column_of-requires : goal.column_of-requires
column_of-requires c =
    satoms_pos _ c.requires.0 c.args.b c.requires.1

pub row_of-pjk-requires : goal.row_of-pjk-requires
row_of-pjk-requires c =
    satoms_pos _ c.requires.0 c.args.b c.requires.1

pub column_of-requires-2 : goal.column_of-requires-2
column_of-requires-2 c =
    satoms_pos _ c.requires.0 c.args.b c.requires.1

pub row_of-pj-requires : goal.row_of-pj-requires
row_of-pj-requires c =
    satoms_pos _ c.requires.0 c.args.b c.requires.1

pub column_of-requires-3 : goal.column_of-requires-3
column_of-requires-3 c =
    satoms_pos _ c.requires.0 c.args.b c.requires.1

pub row_of-requires : goal.row_of-requires
row_of-requires c =
    satoms_pos _ c.requires.0 c.args.b c.requires.1

pub p2s_at-i-requires : goal.p2s_at-i-requires
p2s_at-i-requires c =
    let (ep, ej, ek) = legs_are c.args.b c.args.tables.now.n_satom c.row_of-pjk.ensures c.column_of-2.ensures c.row_of-pj.ensures c.column_of-3.ensures c.row_of.ensures in
    rw ep (p2s-read _ c.requires.0 c.args.b c.requires.1).0

pub six_from-from_i-requires : goal.six_from-from_i-requires
six_from-from_i-requires c =
    let F = c.requires.0 in
    let h = c.requires.1 in
    let o = others_below _ F c.args.b h in
    let (ep, ej, ek) = legs_are c.args.b c.args.tables.now.n_satom c.row_of-pjk.ensures c.column_of-2.ensures c.row_of-pj.ensures c.column_of-3.ensures c.row_of.ensures in
    let el : c.column_of.result < c.args.tables.now.n_satom = rw c.column_of.ensures o.2 in
    let i : c.p2s_at-i.result.0 < c.args.tables.now.n_satom = rw (c.p2s_at-i.ensures, ep) (p2s-read _ F c.args.b h).1 in
    (read-tables _ F c.args.b h, i, rw ej o.0, rw ek o.1, el)

pub six_from-from_j-requires : goal.six_from-from_j-requires
six_from-from_j-requires c =
    let F = c.requires.0 in
    let h = c.requires.1 in
    let o = others_below _ F c.args.b h in
    let (ep, ej, ek) = legs_are c.args.b c.args.tables.now.n_satom c.row_of-pjk.ensures c.column_of-2.ensures c.row_of-pj.ensures c.column_of-3.ensures c.row_of.ensures in
    let el : c.column_of.result < c.args.tables.now.n_satom = rw c.column_of.ensures o.2 in
    let i : c.p2s_at-i.result.0 < c.args.tables.now.n_satom = rw (c.p2s_at-i.ensures, ep) (p2s-read _ F c.args.b h).1 in
    (read-tables _ F c.args.b h, rw ej o.0, i, rw ek o.1, el)

pub six_from-from_k-requires : goal.six_from-from_k-requires
six_from-from_k-requires c =
    let F = c.requires.0 in
    let h = c.requires.1 in
    let o = others_below _ F c.args.b h in
    let (ep, ej, ek) = legs_are c.args.b c.args.tables.now.n_satom c.row_of-pjk.ensures c.column_of-2.ensures c.row_of-pj.ensures c.column_of-3.ensures c.row_of.ensures in
    let el : c.column_of.result < c.args.tables.now.n_satom = rw c.column_of.ensures o.2 in
    let i : c.p2s_at-i.result.0 < c.args.tables.now.n_satom = rw (c.p2s_at-i.ensures, ep) (p2s-read _ F c.args.b h).1 in
    (read-tables _ F c.args.b h, rw ek o.1, i, rw ej o.0, el)

pub six_from-from_l-requires : goal.six_from-from_l-requires
six_from-from_l-requires c =
    let F = c.requires.0 in
    let h = c.requires.1 in
    let o = others_below _ F c.args.b h in
    let (ep, ej, ek) = legs_are c.args.b c.args.tables.now.n_satom c.row_of-pjk.ensures c.column_of-2.ensures c.row_of-pj.ensures c.column_of-3.ensures c.row_of.ensures in
    let el : c.column_of.result < c.args.tables.now.n_satom = rw c.column_of.ensures o.2 in
    let i : c.p2s_at-i.result.0 < c.args.tables.now.n_satom = rw (c.p2s_at-i.ensures, ep) (p2s-read _ F c.args.b h).1 in
    (read-tables _ F c.args.b h, el, i, rw ej o.0, rw ek o.1)

pub returns : goal.returns
returns c =
    let a = c.args in
    let f = stored_in a.tables.now.n_satom a.tables.now.s2pp.now a.tables.now.nsym_list.now a.tables.now.perms.now in
    let (ep, ej, ek) = legs_are c.args.b c.args.tables.now.n_satom c.row_of-pjk.ensures c.column_of-2.ensures c.row_of-pj.ensures c.column_of-3.ensures c.row_of.ensures in
    let i = c.p2s_at-i.result.0 in
    let ei : i ≡ index_at a.tables.now.p2s.now _ = c.p2s_at-i.ensures ∙ ap (index_at a.tables.now.p2s.now) ep in
    joined_are f _ _ _ _ c.joined.ensures c.six_from-from_i.ensures c.six_from-from_j.ensures c.six_from-from_k.ensures c.six_from-from_l.ensures
    ∙ same-atoms f refl ej ek c.column_of.ensures
    ∙ found_are _ c.requires.0 c.args.b c.requires.1 i ei
