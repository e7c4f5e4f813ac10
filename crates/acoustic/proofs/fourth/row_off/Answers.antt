use Prim.Native.Nat.{◌+◌, ◌*◌, ◌/◌, ◌<◌}
use native.Mathlib.Nat.{mod-lt, mul-le-mul, div-lt_iff_lt-mul}
use native.Mathlib.Omega.{arith}
use mathlib.Core.Path.{◌≡◌, refl, ap, ap₂, ◌∙◌}
use lib.Dec.{lit≤}
use Rattle.lists.specs.Digits.{in_row, pos_of, times_power}
use Rattle.tables.specs.Limits.{limit4}
use Rattle.tables.specs.Conditions.{read}
use Rattle.tables.specs.Compact.{ShiftTables, shifts_of, given}
use Rattle.lists.specs.Tab.{times, times_none, times_more}
use Rattle.blocks.specs.Block.{block, put_block}
use Rattle.audits.specs.Guard.{block_inside}
use Rattle.acoustic.specs.Laws.{less, less_at, row_less, other_block, other-below, drift_inside, row4_is, in81, rows4}
use Rattle.acoustic.proofs.fourth.row_off.Goals as goal

pub row_of-pj-requires : goal.row_of-pj-requires
row_of-pj-requires c =
    let a = c.args in
    let g : a.row < a.tables.now.n_patom * a.tables.now.n_satom * a.tables.now.n_satom = c.requires.2 in
    let h = pos_of a.tables.now.n_satom (a.tables.now.n_patom * a.tables.now.n_satom) a.row g in
    h

pub row_of-requires : goal.row_of-requires
row_of-requires c =
    let a = c.args in
    let g : a.row < a.tables.now.n_patom * a.tables.now.n_satom * a.tables.now.n_satom = c.requires.2 in
    let h = pos_of a.tables.now.n_satom (a.tables.now.n_patom * a.tables.now.n_satom) a.row g in
    h

pub p2s_at-i-requires : goal.p2s_at-i-requires
p2s_at-i-requires c =
    let a = c.args in
    let g : a.row < a.tables.now.n_patom * a.tables.now.n_satom * a.tables.now.n_satom = c.requires.2 in
    let h = pos_of a.tables.now.n_satom (a.tables.now.n_patom * a.tables.now.n_satom) a.row g in
    let v : a.row / a.tables.now.n_satom < a.tables.now.n_patom * a.tables.now.n_satom = (div-lt_iff_lt-mul h).1 g in
    let w : a.row / a.tables.now.n_satom / a.tables.now.n_satom < a.tables.now.n_patom = (div-lt_iff_lt-mul h).1 v in
    rw (c.row_of.ensures ∙ ap (λ x. x / a.tables.now.n_satom) c.row_of-pj.ensures) (read c.requires.0.ready.fit.p2s-fit (a.row / a.tables.now.n_satom / a.tables.now.n_satom) w).0

pub column_of-requires : goal.column_of-requires
column_of-requires c =
    let a = c.args in
    let g : a.row < a.tables.now.n_patom * a.tables.now.n_satom * a.tables.now.n_satom = c.requires.2 in
    let h = pos_of a.tables.now.n_satom (a.tables.now.n_patom * a.tables.now.n_satom) a.row g in
    h

pub column_of-requires-2 : goal.column_of-requires-2
column_of-requires-2 c =
    let a = c.args in
    let g : a.row < a.tables.now.n_patom * a.tables.now.n_satom * a.tables.now.n_satom = c.requires.2 in
    let h = pos_of a.tables.now.n_satom (a.tables.now.n_patom * a.tables.now.n_satom) a.row g in
    h

pub loop-l-init : goal.loop-l-init
loop-l-init c = (omega arith, refl, times_none _ _)

pub other_block-r-requires : goal.other_block-r-requires
other_block-r-requires c =
    let a = c.args in
    let g : a.row < a.tables.now.n_patom * a.tables.now.n_satom * a.tables.now.n_satom = c.requires.2 in
    let h = pos_of a.tables.now.n_satom (a.tables.now.n_patom * a.tables.now.n_satom) a.row g in
    let v : a.row / a.tables.now.n_satom < a.tables.now.n_patom * a.tables.now.n_satom = (div-lt_iff_lt-mul h).1 g in
    let w : a.row / a.tables.now.n_satom / a.tables.now.n_satom < a.tables.now.n_patom = (div-lt_iff_lt-mul h).1 v in
    (c.requires.0.ready.fit, c.requires.1, rw (c.p2s_at-i.ensures, c.row_of.ensures, c.row_of-pj.ensures) (read c.requires.0.ready.fit.p2s-fit (a.row / a.tables.now.n_satom / a.tables.now.n_satom) w).1, rw c.column_of.ensures (mod-lt c.row_of-pj.result h), rw c.column_of-2.ensures (mod-lt a.row h), c.loop-l-test.true)

pub index_of-b-requires : goal.index_of-b-requires
index_of-b-requires c =
    let a = c.args in
    let g : a.row < a.tables.now.n_patom * a.tables.now.n_satom * a.tables.now.n_satom = c.requires.2 in
    let h = pos_of a.tables.now.n_satom (a.tables.now.n_patom * a.tables.now.n_satom) a.row g in
    let z = in_row (a.tables.now.n_patom * a.tables.now.n_satom * a.tables.now.n_satom) a.tables.now.n_satom a.row c.loop-l.l g c.loop-l-test.true in
    let few = mul-le-mul (mul-le-mul (mul-le-mul c.requires.0.ready.fit.patoms c.requires.0.ready.fit.satoms) c.requires.0.ready.fit.satoms) c.requires.0.ready.fit.satoms in
    omega (arith, z, few)

pub block_off-requires : goal.block_off-requires
block_off-requires c =
    let a = c.args in
    let g : a.row < a.tables.now.n_patom * a.tables.now.n_satom * a.tables.now.n_satom = c.requires.2 in
    let h = pos_of a.tables.now.n_satom (a.tables.now.n_patom * a.tables.now.n_satom) a.row g in
    let T : ShiftTables = given a.tables.now in
    let l = c.loop-l in
    let hk = c.loop-l-test.true in
    let b = a.row * a.tables.now.n_satom + l.l in
    let z : b < times_power a.tables.now.n_satom 3 a.tables.now.n_patom = rw (rows4 a.tables.now.n_satom a.tables.now.n_patom) (in_row (a.tables.now.n_patom * a.tables.now.n_satom * a.tables.now.n_satom) a.tables.now.n_satom a.row l.l g hk) in
    let e : c.other_block-r.result ≡ other_block (shifts_of T) 3 a.leg b = row4_is T a.row l.l a.leg hk c.row_of-pj.ensures c.row_of.ensures c.p2s_at-i.ensures c.column_of.ensures c.column_of-2.ensures c.other_block-r.ensures in (
      rw (c.index_of-b.ensures, l.invariant.1) (block_inside limit4 3 _ T c.requires.0.ready 81 in81 b z),
      rw e (drift_inside limit4 3 _ _ T c.requires.0 81 in81 (other_block (shifts_of T) 3 a.leg b) (other-below limit4 T (lit≤ tt) c.requires.0.ready.fit c.requires.0.ready.rules 2 a.leg b c.requires.1 z)),
    )

pub loop-l-preserved : goal.loop-l-preserved
unfolding less_at
loop-l-preserved c =
    let a = c.args in
    let T : ShiftTables = given a.tables.now in
    let l = c.loop-l in
    let hk = c.loop-l-test.true in
    let e : c.other_block-r.result ≡ other_block (shifts_of T) 3 a.leg (a.row * a.tables.now.n_satom + l.l) = row4_is T a.row l.l a.leg hk c.row_of-pj.ensures c.row_of.ensures c.p2s_at-i.ensures c.column_of.ensures c.column_of-2.ensures c.other_block-r.ensures in (
      omega arith,
      c.block_off.auto.fc4 ∙ l.invariant.1,
      times_more l.l _ _ l.invariant.2
          (c.block_off.ensures ∙ ap₂ (λ b r. put_block 81 b (less (block 81 b l.fc4) (block 81 r a.drift.now)) l.fc4) c.index_of-b.ensures e),
    )

pub returns : goal.returns
unfolding row_less
returns c =
    let a = c.args in
    let T : ShiftTables = given a.tables.now in
    let l = c.loop-l in
    let e : l.l ≡ a.tables.now.n_satom = omega (arith, c.loop-l-test.false, l.invariant.0) in
    l.invariant.2 ∙ ap (λ m. times m (λ k. less_at (shifts_of T) 3 a.leg 81 a.drift.now (a.row * a.tables.now.n_satom + k)) a.fc4.now) e
