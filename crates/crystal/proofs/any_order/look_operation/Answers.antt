use Prim.Native.Nat.{ℕ, ◌+◌, ◌*◌, ◌<◌}
use native.Mathlib.Omega.{arith}
use mathlib.Core.Path.{◌≡◌, ap, ap₂, ◌∙◌, subst}
use lib.ListN.{length}
use Rattle.lists.specs.Tab.{times, times_none, times_more}
use Rattle.lists.specs.Digits.{times_power}
use Rattle.blocks.specs.Block.{block}
use Rattle.tables.specs.Compact.{ShiftTables, shifts_of, given}
use Rattle.places.specs.Places.{size}
use Rattle.orbits.specs.Transposed.{in_block_pos}
use Rattle.audits.specs.Guard.{block-count, block_inside, few-numbers}
use Rattle.crystal.specs.Laws.{block_seen, operation_seen, look_is, image-inside, few_index}
use Rattle.crystal.proofs.any_order.look_operation.Goals as goal

zero_more : (x : ℕ) → x + 0 ≡ x
zero_more x = omega arith

pub row_of-count-requires : goal.row_of-count-requires
row_of-count-requires g c = subst (λ (w : ℕ). 0 < w) g.met.O.Order.width (in_block_pos g.O.Order.RANK)

pub loop-b-init : goal.loop-b-init
loop-b-init g c = (omega arith, λ carts e. times_none _ _)

pub image_block-to-requires : goal.image_block-to-requires
image_block-to-requires g c =
    let a = c.args in
    let T : ShiftTables = given a.tables.now in
    let n = c.row_of-count.ensures ∙ block-count g.O.Order.LIMIT g.O.Order.RANK _ T c.requires.0 g.row.N g.met.O.Order.width in
    let hb : c.loop-b.b < times_power a.tables.now.n_satom g.O.Order.RANK a.tables.now.n_patom = subst (λ (x : ℕ). c.loop-b.b < x) n c.loop-b-test.true in
    (c.requires.0.fit, c.requires.1, hb)

pub index_of-requires : goal.index_of-requires
index_of-requires g c =
    let a = c.args in
    let T : ShiftTables = given a.tables.now in
    let l = c.loop-b in
    let n = c.row_of-count.ensures ∙ block-count g.O.Order.LIMIT g.O.Order.RANK _ T c.requires.0 g.row.N g.met.O.Order.width in
    let hb : l.b < times_power a.tables.now.n_satom g.O.Order.RANK a.tables.now.n_patom = subst (λ (x : ℕ). l.b < x) n c.loop-b-test.true in
    let inside = block_inside g.O.Order.LIMIT g.O.Order.RANK _ T c.requires.0 g.row.N g.met.O.Order.width l.b hb in
    let f = few-numbers g.O.Order.LIMIT g.O.Order.RANK _ T g.met.O.Order.small.1 g.met.O.Order.small.2 c.requires.0 in
    omega (arith, inside, f)

pub index_of-first-requires : goal.index_of-first-requires
index_of-first-requires g c =
    let a = c.args in
    let T : ShiftTables = given a.tables.now in
    let l = c.loop-b in
    let n = c.row_of-count.ensures ∙ block-count g.O.Order.LIMIT g.O.Order.RANK _ T c.requires.0 g.row.N g.met.O.Order.width in
    let hb : l.b < times_power a.tables.now.n_satom g.O.Order.RANK a.tables.now.n_patom = subst (λ (x : ℕ). l.b < x) n c.loop-b-test.true in
    let inside = block_inside g.O.Order.LIMIT g.O.Order.RANK _ T c.requires.0 g.row.N g.met.O.Order.width l.b hb in
    let f = few-numbers g.O.Order.LIMIT g.O.Order.RANK _ T g.met.O.Order.small.1 g.met.O.Order.small.2 c.requires.0 in
    rw c.index_of.ensures (few_index a.r (length a.fc.now) (l.b * g.row.N + 0) c.requires.2 f (omega (arith, inside))).0

pub look_block-seen-requires : goal.look_block-seen-requires
look_block-seen-requires g c =
    let a = c.args in
    let T : ShiftTables = given a.tables.now in
    let l = c.loop-b in
    let n = c.row_of-count.ensures ∙ block-count g.O.Order.LIMIT g.O.Order.RANK _ T c.requires.0 g.row.N g.met.O.Order.width in
    let hb : l.b < times_power a.tables.now.n_satom g.O.Order.RANK a.tables.now.n_patom = subst (λ (x : ℕ). l.b < x) n c.loop-b-test.true in
    let inside = block_inside g.O.Order.LIMIT g.O.Order.RANK _ T c.requires.0 g.row.N g.met.O.Order.width l.b hb in
    let f = few-numbers g.O.Order.LIMIT g.O.Order.RANK _ T g.met.O.Order.small.1 g.met.O.Order.small.2 c.requires.0 in
    let e : c.index_of-first.result ≡ a.r * length a.fc.now + (l.b * g.row.N + 0) = c.index_of-first.ensures ∙ ap (λ x. a.r * length a.fc.now + x) c.index_of.ensures in
    let q = (few_index a.r (length a.fc.now) (l.b * g.row.N + 0) c.requires.2 f (omega (arith, inside))).1 in
    let w = g.met.O.Order.small.4 in
    (omega (arith, w), (rw c.image_block-to.ensures (image-inside g.O.Order.LIMIT g.O.Order.RANK _ T c.requires.0 g.met.O.Order.small.1 a.operations.now a.r c.requires.1 l.b hb g.row.N g.met.O.Order.width), inside, omega (arith, e, q, g.met.O.Order.small.3)))

pub loop-b-preserved : goal.loop-b-preserved
loop-b-preserved g c =
    let a = c.args in
    let T : ShiftTables = given a.tables.now in
    let l = c.loop-b in
    let e : c.index_of-first.result ≡ a.r * size (shifts_of T) g.O.Order.RANK + l.b * g.row.N =
    c.index_of-first.ensures ∙ ap₂ (λ x y. a.r * x + y) c.requires.0.set-length (c.index_of.ensures ∙ zero_more (l.b * g.row.N)) in (
      omega arith,
      λ carts h.
          times_more l.b _ _ (l.invariant.1 carts h)
          (c.look_block-seen.ensures (block 9 a.r carts) h
          ∙ look_is (shifts_of T) g.O.Order.RANK carts a.operations.now a.fc.now g.row.N a.r l.b l.seen e c.image_block-to.ensures),
    )

pub returns : goal.returns
unfolding operation_seen
returns g c =
    let a = c.args in
    let T : ShiftTables = given a.tables.now in
    let l = c.loop-b in
    let n = c.row_of-count.ensures ∙ block-count g.O.Order.LIMIT g.O.Order.RANK _ T c.requires.0 g.row.N g.met.O.Order.width in
    let i : l.b ≡ times_power a.tables.now.n_satom g.O.Order.RANK a.tables.now.n_patom = omega (arith, c.loop-b-test.false, l.invariant.0) ∙ n in
    λ carts h. l.invariant.1 carts h ∙ ap (λ k. times k (block_seen (shifts_of T) g.O.Order.RANK carts a.operations.now a.fc.now g.row.N a.r) a.seen0) i
