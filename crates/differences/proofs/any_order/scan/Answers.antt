use Prim.Native.Nat.{ℕ, ◌<◌}
use native.Mathlib.Omega.{arith}
use mathlib.Core.Path.{◌≡◌, ap, ◌∙◌, subst}
use Rattle.lists.specs.Tab.{times, times_none, times_more}
use Rattle.lists.specs.Digits.{times_power}
use Rattle.tables.specs.Compact.{ShiftTables, shifts_of, given}
use Rattle.orbits.specs.Transposed.{in_block_pos}
use Rattle.audits.specs.Blocks.{fits_w}
use Rattle.audits.specs.Guard.{block-count, few-numbers}
use Rattle.differences.specs.Laws.{block_seen, block_is, blocks-seen}
use Rattle.differences.proofs.any_order.scan.Goals as goal

pub row_of-count-requires : goal.row_of-count-requires
row_of-count-requires g c = subst (λ (w : ℕ). 0 < w) g.met.O.Order.width (in_block_pos g.O.Order.RANK)

pub loop-b-init : goal.loop-b-init
loop-b-init g c = times_none _ _

pub group_blocks-bs-requires : goal.group_blocks-bs-requires
group_blocks-bs-requires g c =
    let a = c.args in
    let T : ShiftTables = given a.tables.now in
    let n = c.row_of-count.ensures ∙ block-count g.O.Order.LIMIT g.O.Order.RANK _ T c.requires g.row.N g.met.O.Order.width in
    let hb : c.loop-b.b < times_power a.tables.now.n_satom g.O.Order.RANK a.tables.now.n_patom = subst (λ (x : ℕ). c.loop-b.b < x) n c.loop-b-test.true in
    let k = g.met.O.Order.small.4 in
    (omega (arith, k), (c.requires.fit, hb))

pub look_block-seen-requires : goal.look_block-seen-requires
look_block-seen-requires g c =
    let a = c.args in
    let R = c.requires in
    let T : ShiftTables = given a.tables.now in
    let l = c.loop-b in
    let n = c.row_of-count.ensures ∙ block-count g.O.Order.LIMIT g.O.Order.RANK _ T R g.row.N g.met.O.Order.width in
    let hb : l.b < times_power a.tables.now.n_satom g.O.Order.RANK a.tables.now.n_patom = subst (λ (x : ℕ). l.b < x) n c.loop-b-test.true in
    let O = c.positions-t.ensures in
    (fits_w (shifts_of T) R.rules g.O.Order.RANK g.O.Order.permutations _ O a.fc.now R.set-length g.row.N g.met.O.Order.width l.b hb _ c.group_blocks-bs.ensures, few-numbers g.O.Order.LIMIT g.O.Order.RANK _ T g.met.O.Order.small.1 g.met.O.Order.small.2 R)

pub loop-b-preserved : goal.loop-b-preserved
loop-b-preserved g c =
    let a = c.args in
    let R = c.requires in
    let T : ShiftTables = given a.tables.now in
    let l = c.loop-b in
    let n = c.row_of-count.ensures ∙ block-count g.O.Order.LIMIT g.O.Order.RANK _ T R g.row.N g.met.O.Order.width in
    let hb : l.b < times_power a.tables.now.n_satom g.O.Order.RANK a.tables.now.n_patom = subst (λ (x : ℕ). l.b < x) n c.loop-b-test.true in
    let O = c.positions-t.ensures in
    times_more l.b _ _ l.invariant (c.look_block-seen.ensures ∙ block_is (shifts_of T) R.rules g.O.Order.RANK g.O.Order.permutations _ O a.fc.now R.set-length g.row.N g.met.O.Order.width l.b hb _ c.group_blocks-bs.ensures l.seen)

pub returns : goal.returns
returns g c =
    let a = c.args in
    let T : ShiftTables = given a.tables.now in
    let l = c.loop-b in
    let n = c.row_of-count.ensures ∙ block-count g.O.Order.LIMIT g.O.Order.RANK _ T c.requires g.row.N g.met.O.Order.width in
    let i : l.b ≡ c.row_of-count.result = omega arith in
    blocks-seen (shifts_of T) g.O.Order.RANK g.O.Order.permutations a.fc.now g.row.N l.b g.met.O.Order.width (i ∙ n) (l.invariant ∙ ap (times l.b (block_seen (shifts_of T) g.O.Order.RANK g.O.Order.permutations a.fc.now g.row.N)) c.start-seen.ensures)
