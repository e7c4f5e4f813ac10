use Prim.Native.Nat.{◌<◌}
use mathlib.Core.Path.{◌∙◌}
use Rattle.lists.specs.Digits.{horner}
use Rattle.fc4.specs.Blocks.{whole_below, whole_pos, whole_are, joined_are, legs_are, same-atoms}
use Rattle.fc4.proofs.group.full_group_blocks.Goals as goal

pub column_of-requires : goal.column_of-requires
column_of-requires c =
    whole_pos c.args.n c.args.b c.requires.1

pub row_of-ijk-requires : goal.row_of-ijk-requires
row_of-ijk-requires c =
    whole_pos c.args.n c.args.b c.requires.1

pub column_of-requires-2 : goal.column_of-requires-2
column_of-requires-2 c =
    whole_pos c.args.n c.args.b c.requires.1

pub row_of-ij-requires : goal.row_of-ij-requires
row_of-ij-requires c =
    whole_pos c.args.n c.args.b c.requires.1

pub column_of-requires-3 : goal.column_of-requires-3
column_of-requires-3 c =
    whole_pos c.args.n c.args.b c.requires.1

pub row_of-requires : goal.row_of-requires
row_of-requires c =
    whole_pos c.args.n c.args.b c.requires.1

pub full_six_from-from_i-requires : goal.full_six_from-from_i-requires
full_six_from-from_i-requires c =
    let o = whole_below c.args.n c.args.b c.requires.1 in
    let (ep, ej, ek) = legs_are c.args.b c.args.n c.row_of-ijk.ensures c.column_of-2.ensures c.row_of-ij.ensures c.column_of-3.ensures c.row_of.ensures in
    let i : c.row_of.result < c.args.n = rw ep o.0 in
    let j : c.column_of-3.result < c.args.n = rw ej o.1 in
    let k : c.column_of-2.result < c.args.n = rw ek o.2 in
    let l : c.column_of.result < c.args.n = rw c.column_of.ensures o.3 in
    (c.requires.0, i, j, k, l)

pub full_six_from-from_j-requires : goal.full_six_from-from_j-requires
full_six_from-from_j-requires c =
    let o = whole_below c.args.n c.args.b c.requires.1 in
    let (ep, ej, ek) = legs_are c.args.b c.args.n c.row_of-ijk.ensures c.column_of-2.ensures c.row_of-ij.ensures c.column_of-3.ensures c.row_of.ensures in
    let i : c.row_of.result < c.args.n = rw ep o.0 in
    let j : c.column_of-3.result < c.args.n = rw ej o.1 in
    let k : c.column_of-2.result < c.args.n = rw ek o.2 in
    let l : c.column_of.result < c.args.n = rw c.column_of.ensures o.3 in
    (c.requires.0, j, i, k, l)

pub full_six_from-from_k-requires : goal.full_six_from-from_k-requires
full_six_from-from_k-requires c =
    let o = whole_below c.args.n c.args.b c.requires.1 in
    let (ep, ej, ek) = legs_are c.args.b c.args.n c.row_of-ijk.ensures c.column_of-2.ensures c.row_of-ij.ensures c.column_of-3.ensures c.row_of.ensures in
    let i : c.row_of.result < c.args.n = rw ep o.0 in
    let j : c.column_of-3.result < c.args.n = rw ej o.1 in
    let k : c.column_of-2.result < c.args.n = rw ek o.2 in
    let l : c.column_of.result < c.args.n = rw c.column_of.ensures o.3 in
    (c.requires.0, k, i, j, l)

pub full_six_from-from_l-requires : goal.full_six_from-from_l-requires
full_six_from-from_l-requires c =
    let o = whole_below c.args.n c.args.b c.requires.1 in
    let (ep, ej, ek) = legs_are c.args.b c.args.n c.row_of-ijk.ensures c.column_of-2.ensures c.row_of-ij.ensures c.column_of-3.ensures c.row_of.ensures in
    let i : c.row_of.result < c.args.n = rw ep o.0 in
    let j : c.column_of-3.result < c.args.n = rw ej o.1 in
    let k : c.column_of-2.result < c.args.n = rw ek o.2 in
    let l : c.column_of.result < c.args.n = rw c.column_of.ensures o.3 in
    (c.requires.0, l, i, j, k)

pub returns : goal.returns
returns c =
    let f = horner c.args.n in
    let (ep, ej, ek) = legs_are c.args.b c.args.n c.row_of-ijk.ensures c.column_of-2.ensures c.row_of-ij.ensures c.column_of-3.ensures c.row_of.ensures in
    joined_are f _ _ _ _ c.joined.ensures c.full_six_from-from_i.ensures c.full_six_from-from_j.ensures c.full_six_from-from_k.ensures c.full_six_from-from_l.ensures
    ∙ same-atoms f ep ej ek c.column_of.ensures
    ∙ whole_are c.args.n c.args.b c.requires.1
