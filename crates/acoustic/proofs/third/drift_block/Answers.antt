use Prim.Native.Nat.{◌/◌, ◌<◌}
use native.Mathlib.Nat.{mod-lt, mul-le-mul, div-lt_iff_lt-mul}
use native.Mathlib.Omega.{arith}
use mathlib.Core.Path.{◌≡◌, ap, ◌∙◌}
use lib.Dec.{lit≤}
use Rattle.lists.specs.Digits.{in_row, pos_of}
use Rattle.tables.specs.Limits.{limit3}
use Rattle.tables.specs.Conditions.{read}
use Rattle.tables.specs.Compact.{ShiftTables, shifts_of, given}
use Rattle.legs.specs.Laws.{block_sums, leg_block}
use Rattle.acoustic.specs.Laws.{scaled, line_of, line-below, line3_is, rows2}
use borrow.Author.Rules.{rules}
use Rattle.acoustic.proofs.third.drift_block.Goals as goal

pub row_of-requires : goal.row_of-requires
row_of-requires c = pos_of c.args.tables.now.n_satom c.args.tables.now.n_patom c.args.r c.requires.2

pub p2s_at-i-requires : goal.p2s_at-i-requires
p2s_at-i-requires c =
    let a = c.args in
    let h = pos_of a.tables.now.n_satom a.tables.now.n_patom a.r c.requires.2 in
    rw c.row_of.ensures (read c.requires.0.fit.p2s-fit (a.r / a.tables.now.n_satom) ((div-lt_iff_lt-mul h).1 c.requires.2)).0

pub column_of-requires : goal.column_of-requires
column_of-requires c = pos_of c.args.tables.now.n_satom c.args.tables.now.n_patom c.args.r c.requires.2

pub index_of-t-requires : goal.index_of-t-requires
index_of-t-requires c =
    let a = c.args in
    let h = pos_of a.tables.now.n_satom a.tables.now.n_patom a.r c.requires.2 in
    let g : c.p2s_at-i.result.0 < a.tables.now.n_satom =
    rw (c.p2s_at-i.ensures, c.row_of.ensures) (read c.requires.0.fit.p2s-fit (a.r / a.tables.now.n_satom) ((div-lt_iff_lt-mul h).1 c.requires.2)).1 in
    let k : c.column_of.result < a.tables.now.n_satom = rw c.column_of.ensures (mod-lt a.r h) in
    let z = in_row a.tables.now.n_satom a.tables.now.n_satom c.p2s_at-i.result.0 c.column_of.result g k in
    let few = mul-le-mul c.requires.0.fit.satoms c.requires.0.fit.satoms in
    omega (arith, z, few)

pub leg_sums-v-requires : goal.leg_sums-v-requires
leg_sums-v-requires c =
    let a = c.args in
    let T : ShiftTables = given a.tables.now in
    let e : c.index_of-t.result ≡ line_of (shifts_of T) 2 a.r = line3_is T a.r c.row_of.ensures c.p2s_at-i.ensures c.column_of.ensures c.index_of-t.ensures in
    (c.requires.0, c.requires.1, rw e (line-below limit3 T (lit≤ tt) c.requires.0.fit c.requires.0.rules 1 a.r (rw (rows2 a.tables.now.n_satom a.tables.now.n_patom) c.requires.2)))

pub returns : goal.returns
returns c =
    let a = c.args in
    let T : ShiftTables = given a.tables.now in
    c.scale_all.ensures
    ∙ ap (λ v. scaled v a.inv_n) (c.leg_sums-v.ensures
    ∙ ap (λ t. block_sums 27 (leg_block (shifts_of T) 2 a.leg t) a.tables.now.n_satom a.fc3.now)
    (line3_is T a.r c.row_of.ensures c.p2s_at-i.ensures c.column_of.ensures c.index_of-t.ensures))
