use lib.Dec.{lit≤}
use Prim.Native.Nat.{◌+◌, ◌*◌, ◌/◌, ◌<◌}
use native.Mathlib.Nat.{mod-lt, mul-le-mul, div-lt_iff_lt-mul}
use native.Mathlib.Omega.{arith}
use mathlib.Core.Path.{◌≡◌, refl, ap, ap₂, ◌∙◌}
use Rattle.lists.specs.Tab.{times, times_none, times_more}
use Rattle.lists.specs.Digits.{times_power, in_row, pos_of}
use Rattle.blocks.specs.Block.{block, put_block}
use Rattle.tables.specs.Limits.{limit3}
use Rattle.tables.specs.Conditions.{read}
use Rattle.tables.specs.Compact.{ShiftTables, shifts_of, given}
use Rattle.audits.specs.Guard.{block_inside}
use Rattle.acoustic.specs.Laws.{less, less_at, row_less, other_block, other-below, drift_inside, row3_is, in27, rows3}
use borrow.Author.Rules.{rules}
use Rattle.acoustic.proofs.third.row_off.Goals as goal

pub row_of-requires : goal.row_of-requires
row_of-requires c = pos_of c.args.tables.now.n_satom c.args.tables.now.n_patom c.args.row c.requires.2

pub p2s_at-i-requires : goal.p2s_at-i-requires
p2s_at-i-requires c =
    let a = c.args in
    let h = pos_of a.tables.now.n_satom a.tables.now.n_patom a.row c.requires.2 in
    rw c.row_of.ensures (read c.requires.0.ready.fit.p2s-fit (a.row / a.tables.now.n_satom) ((div-lt_iff_lt-mul h).1 c.requires.2)).0

pub column_of-requires : goal.column_of-requires
column_of-requires c = pos_of c.args.tables.now.n_satom c.args.tables.now.n_patom c.args.row c.requires.2

pub loop-k-init : goal.loop-k-init
loop-k-init c = (omega arith, refl, times_none _ _)

pub other_block-r-requires : goal.other_block-r-requires
other_block-r-requires c =
    let a = c.args in
    let h = pos_of a.tables.now.n_satom a.tables.now.n_patom a.row c.requires.2 in
    (c.requires.0.ready.fit, c.requires.1, rw (c.p2s_at-i.ensures, c.row_of.ensures) (read c.requires.0.ready.fit.p2s-fit (a.row / a.tables.now.n_satom) ((div-lt_iff_lt-mul h).1 c.requires.2)).1, rw c.column_of.ensures (mod-lt a.row h), c.loop-k-test.true)

pub index_of-b-requires : goal.index_of-b-requires
index_of-b-requires c =
    let a = c.args in
    let z = in_row (a.tables.now.n_patom * a.tables.now.n_satom) a.tables.now.n_satom a.row c.loop-k.k c.requires.2 c.loop-k-test.true in
    let few = mul-le-mul (mul-le-mul c.requires.0.ready.fit.patoms c.requires.0.ready.fit.satoms) c.requires.0.ready.fit.satoms in
    omega (arith, z, few)

pub block_off-requires : goal.block_off-requires
block_off-requires c =
    let a = c.args in
    let T : ShiftTables = given a.tables.now in
    let l = c.loop-k in
    let hk = c.loop-k-test.true in
    let z = in_row (a.tables.now.n_patom * a.tables.now.n_satom) a.tables.now.n_satom a.row l.k c.requires.2 hk in
    let h : a.row * a.tables.now.n_satom + l.k < times_power a.tables.now.n_satom 2 a.tables.now.n_patom = rw (rows3 a.tables.now.n_satom a.tables.now.n_patom) z in
    let e : c.other_block-r.result ≡ other_block (shifts_of T) 2 a.leg (a.row * a.tables.now.n_satom + l.k) =
    row3_is T a.row l.k a.leg hk c.row_of.ensures c.p2s_at-i.ensures c.column_of.ensures c.other_block-r.ensures in (
      rw (c.index_of-b.ensures, l.invariant.1) (block_inside limit3 2 _ T c.requires.0.ready 27 in27 (a.row * a.tables.now.n_satom + l.k) h),
      rw e (drift_inside limit3 2 _ _ T c.requires.0 27 in27 (other_block (shifts_of T) 2 a.leg (a.row * a.tables.now.n_satom + l.k)) (other-below limit3 T (lit≤ tt) c.requires.0.ready.fit c.requires.0.ready.rules 1 a.leg (a.row * a.tables.now.n_satom + l.k) c.requires.1 h)),
    )

pub loop-k-preserved : goal.loop-k-preserved
unfolding less_at
loop-k-preserved c =
    let a = c.args in
    let T : ShiftTables = given a.tables.now in
    let l = c.loop-k in
    let hk = c.loop-k-test.true in
    let e : c.other_block-r.result ≡ other_block (shifts_of T) 2 a.leg (a.row * a.tables.now.n_satom + l.k) =
    row3_is T a.row l.k a.leg hk c.row_of.ensures c.p2s_at-i.ensures c.column_of.ensures c.other_block-r.ensures in (
      omega arith,
      c.block_off.auto.fc3 ∙ l.invariant.1,
      times_more l.k _ _ l.invariant.2
          (c.block_off.ensures ∙ ap₂ (λ b r. put_block 27 b (less (block 27 b l.fc3) (block 27 r a.drift.now)) l.fc3) c.index_of-b.ensures e),
    )

pub returns : goal.returns
unfolding row_less
returns c =
    let a = c.args in
    let T : ShiftTables = given a.tables.now in
    let l = c.loop-k in
    let e : l.k ≡ a.tables.now.n_satom = omega (arith, c.loop-k-test.false, l.invariant.0) in
    l.invariant.2 ∙ ap (λ m. times m (λ k. less_at (shifts_of T) 2 a.leg 27 a.drift.now (a.row * a.tables.now.n_satom + k)) a.fc3.now) e
