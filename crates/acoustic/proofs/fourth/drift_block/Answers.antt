use Prim.Native.Nat.{◌*◌, ◌/◌, ◌<◌}
use native.Mathlib.Nat.{mod-lt, mul-le-mul, div-lt_iff_lt-mul}
use native.Mathlib.Omega.{arith}
use mathlib.Core.Path.{◌≡◌, ap, ◌∙◌}
use lib.Dec.{lit≤}
use Rattle.lists.specs.Digits.{in_row, pos_of}
use Rattle.tables.specs.Limits.{limit4}
use Rattle.tables.specs.Conditions.{read}
use Rattle.tables.specs.Compact.{ShiftTables, shifts_of, given}
use Rattle.legs.specs.Laws.{block_sums, leg_block}
use Rattle.acoustic.specs.Laws.{scaled, line_of, line-below, line4_is, rows3}
use borrow.Author.Rules.{rules}
use Rattle.acoustic.proofs.fourth.drift_block.Goals as goal

pub row_of-pj-requires : goal.row_of-pj-requires
row_of-pj-requires c =
    let a = c.args in
    let g : a.r < a.tables.now.n_patom * a.tables.now.n_satom * a.tables.now.n_satom = c.requires.2 in
    let h = pos_of a.tables.now.n_satom (a.tables.now.n_patom * a.tables.now.n_satom) a.r g in
    h

pub row_of-requires : goal.row_of-requires
row_of-requires c =
    let a = c.args in
    let g : a.r < a.tables.now.n_patom * a.tables.now.n_satom * a.tables.now.n_satom = c.requires.2 in
    let h = pos_of a.tables.now.n_satom (a.tables.now.n_patom * a.tables.now.n_satom) a.r g in
    h

pub p2s_at-i-requires : goal.p2s_at-i-requires
p2s_at-i-requires c =
    let a = c.args in
    let g : a.r < a.tables.now.n_patom * a.tables.now.n_satom * a.tables.now.n_satom = c.requires.2 in
    let h = pos_of a.tables.now.n_satom (a.tables.now.n_patom * a.tables.now.n_satom) a.r g in
    let v : a.r / a.tables.now.n_satom < a.tables.now.n_patom * a.tables.now.n_satom = (div-lt_iff_lt-mul h).1 g in
    let w : a.r / a.tables.now.n_satom / a.tables.now.n_satom < a.tables.now.n_patom = (div-lt_iff_lt-mul h).1 v in
    rw (c.row_of.ensures ∙ ap (λ x. x / a.tables.now.n_satom) c.row_of-pj.ensures) (read c.requires.0.fit.p2s-fit (a.r / a.tables.now.n_satom / a.tables.now.n_satom) w).0

pub column_of-requires : goal.column_of-requires
column_of-requires c =
    let a = c.args in
    let g : a.r < a.tables.now.n_patom * a.tables.now.n_satom * a.tables.now.n_satom = c.requires.2 in
    let h = pos_of a.tables.now.n_satom (a.tables.now.n_patom * a.tables.now.n_satom) a.r g in
    h

pub index_of-ij-requires : goal.index_of-ij-requires
index_of-ij-requires c =
    let a = c.args in
    let g : a.r < a.tables.now.n_patom * a.tables.now.n_satom * a.tables.now.n_satom = c.requires.2 in
    let h = pos_of a.tables.now.n_satom (a.tables.now.n_patom * a.tables.now.n_satom) a.r g in
    let v : a.r / a.tables.now.n_satom < a.tables.now.n_patom * a.tables.now.n_satom = (div-lt_iff_lt-mul h).1 g in
    let w : a.r / a.tables.now.n_satom / a.tables.now.n_satom < a.tables.now.n_patom = (div-lt_iff_lt-mul h).1 v in
    let x : c.p2s_at-i.result.0 < a.tables.now.n_satom = rw (c.p2s_at-i.ensures, c.row_of.ensures, c.row_of-pj.ensures) (read c.requires.0.fit.p2s-fit (a.r / a.tables.now.n_satom / a.tables.now.n_satom) w).1 in
    let y : c.column_of.result < a.tables.now.n_satom = rw c.column_of.ensures (mod-lt c.row_of-pj.result h) in
    let z = in_row a.tables.now.n_satom a.tables.now.n_satom c.p2s_at-i.result.0 c.column_of.result x y in
    let few = mul-le-mul c.requires.0.fit.satoms c.requires.0.fit.satoms in
    omega (arith, z, few)

pub column_of-requires-2 : goal.column_of-requires-2
column_of-requires-2 c =
    let a = c.args in
    let g : a.r < a.tables.now.n_patom * a.tables.now.n_satom * a.tables.now.n_satom = c.requires.2 in
    let h = pos_of a.tables.now.n_satom (a.tables.now.n_patom * a.tables.now.n_satom) a.r g in
    h

pub index_of-t-requires : goal.index_of-t-requires
index_of-t-requires c =
    let a = c.args in
    let g : a.r < a.tables.now.n_patom * a.tables.now.n_satom * a.tables.now.n_satom = c.requires.2 in
    let h = pos_of a.tables.now.n_satom (a.tables.now.n_patom * a.tables.now.n_satom) a.r g in
    let v : a.r / a.tables.now.n_satom < a.tables.now.n_patom * a.tables.now.n_satom = (div-lt_iff_lt-mul h).1 g in
    let w : a.r / a.tables.now.n_satom / a.tables.now.n_satom < a.tables.now.n_patom = (div-lt_iff_lt-mul h).1 v in
    let x : c.p2s_at-i.result.0 < a.tables.now.n_satom = rw (c.p2s_at-i.ensures, c.row_of.ensures, c.row_of-pj.ensures) (read c.requires.0.fit.p2s-fit (a.r / a.tables.now.n_satom / a.tables.now.n_satom) w).1 in
    let y : c.column_of.result < a.tables.now.n_satom = rw c.column_of.ensures (mod-lt c.row_of-pj.result h) in
    let z : c.index_of-ij.result < a.tables.now.n_satom * a.tables.now.n_satom = rw c.index_of-ij.ensures (in_row a.tables.now.n_satom a.tables.now.n_satom c.p2s_at-i.result.0 c.column_of.result x y) in
    let y2 : c.column_of-2.result < a.tables.now.n_satom = rw c.column_of-2.ensures (mod-lt a.r h) in
    let z2 = in_row (a.tables.now.n_satom * a.tables.now.n_satom) a.tables.now.n_satom c.index_of-ij.result c.column_of-2.result z y2 in
    let few = mul-le-mul (mul-le-mul c.requires.0.fit.satoms c.requires.0.fit.satoms) c.requires.0.fit.satoms in
    omega (arith, z2, few)

pub leg_sums-v-requires : goal.leg_sums-v-requires
leg_sums-v-requires c =
    let a = c.args in
    let T : ShiftTables = given a.tables.now in
    let e : c.index_of-t.result ≡ line_of (shifts_of T) 3 a.r = line4_is T a.r c.row_of-pj.ensures c.row_of.ensures c.p2s_at-i.ensures c.column_of.ensures c.index_of-ij.ensures c.column_of-2.ensures c.index_of-t.ensures in
    (c.requires.0, c.requires.1, rw e (line-below limit4 T (lit≤ tt) c.requires.0.fit c.requires.0.rules 2 a.r (rw (rows3 a.tables.now.n_satom a.tables.now.n_patom) c.requires.2)))

pub returns : goal.returns
returns c =
    let a = c.args in
    let T : ShiftTables = given a.tables.now in
    c.scale_all.ensures
    ∙ ap (λ v. scaled v a.inv_n) (c.leg_sums-v.ensures ∙ ap (λ t. block_sums 81 (leg_block (shifts_of T) 3 a.leg t) a.tables.now.n_satom a.fc4.now) (line4_is T a.r c.row_of-pj.ensures c.row_of.ensures c.p2s_at-i.ensures c.column_of.ensures c.index_of-ij.ensures c.column_of-2.ensures c.index_of-t.ensures))
