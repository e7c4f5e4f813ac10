use Rattle.std.specs.Prelude.{Ok, Some}
use Prim.Native.Nat.{ℕ, ◌≤◌, ◌<◌}
use native.Mathlib.Omega.{arith}
use mathlib.Core.Path.{ap, ◌∙◌, subst}
use Rattle.lists.specs.Digits.{times_power}
use Rattle.tables.specs.Compact.{ShiftTables, shifts_of, given}
use Rattle.orbits.specs.Transposed.{in_block_pos}
use Rattle.audits.specs.Blocks.{fits_w, all-passed}
use Rattle.audits.proofs.BlocksLaws.{passed-w, some-w, found-w}
use Rattle.audits.specs.Guard.{block-count}
use Rattle.audits.proofs.any_order.scan.Goals as goal

pub row_of-count-requires : goal.row_of-count-requires
row_of-count-requires g c = subst (λ (w : ℕ). 0 < w) g.met.O.Order.width (in_block_pos g.O.Order.RANK)

pub loop-b-init : goal.loop-b-init
loop-b-init g c = c.requires.1

pub group_blocks-bs-requires : goal.group_blocks-bs-requires
group_blocks-bs-requires g c =
    let R = c.requires.0 in
    let a = c.args in
    let T : ShiftTables = given a.tables.now in
    let l = c.loop-b in
    let n = c.row_of-count.ensures ∙ block-count g.O.Order.LIMIT g.O.Order.RANK _ T R g.row.N g.met.O.Order.width in
    let hb : l.b < times_power a.tables.now.n_satom g.O.Order.RANK a.tables.now.n_patom = subst (λ (x : ℕ). l.b < x) n c.loop-b-test.true in
    let k = g.met.O.Order.small.4 in
    (omega (arith, k), (R.fit, hb))

pub look-k-requires : goal.look-k-requires
look-k-requires g c =
    let R = c.requires.0 in
    let a = c.args in
    let T : ShiftTables = given a.tables.now in
    let l = c.loop-b in
    let n = c.row_of-count.ensures ∙ block-count g.O.Order.LIMIT g.O.Order.RANK _ T R g.row.N g.met.O.Order.width in
    let hb : l.b < times_power a.tables.now.n_satom g.O.Order.RANK a.tables.now.n_patom = subst (λ (x : ℕ). l.b < x) n c.loop-b-test.true in
    let O = c.positions-t.ensures in
    fits_w (shifts_of T) R.rules g.O.Order.RANK g.O.Order.permutations _ O a.fc.now R.set-length g.row.N g.met.O.Order.width l.b hb _ c.group_blocks-bs.ensures

pub difference-requires : goal.difference-requires
difference-requires g c =
    let R = c.requires.0 in
    let a = c.args in
    let T : ShiftTables = given a.tables.now in
    let l = c.loop-b in
    let n = c.row_of-count.ensures ∙ block-count g.O.Order.LIMIT g.O.Order.RANK _ T R g.row.N g.met.O.Order.width in
    let hb : l.b < times_power a.tables.now.n_satom g.O.Order.RANK a.tables.now.n_patom = subst (λ (x : ℕ). l.b < x) n c.loop-b-test.true in
    let O = c.positions-t.ensures in
    let eb = c.group_blocks-bs.ensures in (
      fits_w (shifts_of T) R.rules g.O.Order.RANK g.O.Order.permutations _ O a.fc.now R.set-length g.row.N g.met.O.Order.width l.b hb _ eb,
      c.if-k.true,
      some-w (shifts_of T) R.rules g.O.Order.RANK g.O.Order.permutations _ O a.fc.now R.set-length g.row.N g.met.O.Order.width l.b hb _ eb _ c.look-k.ensures c.if-k.true,
    )

pub returns-then-k : goal.returns-then-k
returns-then-k g c =
    let R = c.requires.0 in
    let a = c.args in
    let T : ShiftTables = given a.tables.now in
    let l = c.loop-b in
    let n = c.row_of-count.ensures ∙ block-count g.O.Order.LIMIT g.O.Order.RANK _ T R g.row.N g.met.O.Order.width in
    let hb : l.b < times_power a.tables.now.n_satom g.O.Order.RANK a.tables.now.n_patom = subst (λ (x : ℕ). l.b < x) n c.loop-b-test.true in
    let O = c.positions-t.ensures in
    let eb = c.group_blocks-bs.ensures in
    ap (λ d. Ok (Some d)) c.difference.ensures
    ∙ found-w (shifts_of T) R.rules g.O.Order.RANK g.O.Order.permutations _ O a.fc.now R.set-length g.row.N g.met.O.Order.width l.b hb _ eb _ c.look-k.ensures c.if-k.true l.invariant

pub loop-b-preserved : goal.loop-b-preserved
loop-b-preserved g c =
    let R = c.requires.0 in
    let a = c.args in
    let T : ShiftTables = given a.tables.now in
    let l = c.loop-b in
    let n = c.row_of-count.ensures ∙ block-count g.O.Order.LIMIT g.O.Order.RANK _ T R g.row.N g.met.O.Order.width in
    let hb : l.b < times_power a.tables.now.n_satom g.O.Order.RANK a.tables.now.n_patom = subst (λ (x : ℕ). l.b < x) n c.loop-b-test.true in
    let O = c.positions-t.ensures in
    let eb = c.group_blocks-bs.ensures in
    passed-w (shifts_of T) R.rules g.O.Order.RANK g.O.Order.permutations _ O a.fc.now R.set-length g.row.N g.met.O.Order.width l.b hb _ eb _ c.look-k.ensures c.if-k.false l.invariant

pub returns : goal.returns
returns g c =
    let R = c.requires.0 in
    let a = c.args in
    let T : ShiftTables = given a.tables.now in
    let l = c.loop-b in
    let n = c.row_of-count.ensures ∙ block-count g.O.Order.LIMIT g.O.Order.RANK _ T R g.row.N g.met.O.Order.width in
    let hb : times_power a.tables.now.n_satom g.O.Order.RANK a.tables.now.n_patom ≤ l.b = subst (λ (x : ℕ). x ≤ l.b) n c.loop-b-test.false in
    all-passed (shifts_of T) R.rules g.O.Order.RANK g.O.Order.permutations _ c.positions-t.ensures a.fc.now R.set-length l.b hb l.invariant
