use Prim.Native.Nat.{ℕ, ◌/◌, ◌%◌, ◌≤◌, ◌<◌}
use native.Mathlib.Nat.{mod-lt}
use native.Mathlib.Omega.{arith}
use mathlib.Core.Path.{◌≡◌, ap, ◌∙◌}
use lib.Dec.{lit≤}
use Rattle.lists.specs.Digits.{room_pos}
use Rattle.tables.specs.Limits.{limit3}
use Rattle.tables.specs.Compact.{ShiftTables, given}
use Rattle.places.specs.ReadOuts.{tables}
use Rattle.legs.specs.Laws.{leg3_0, leg3_1, leg3_2}
use Rattle.legs.proofs.third.leg_block.Goals as goal

last-leg : (leg : ℕ) → leg ≤ 2 → (leg ≡ 0 → ⊥) → (leg ≡ 1 → ⊥) → leg ≡ 2
last-leg leg h a b = omega (arith, h, a, b)

pub column_of-requires : goal.column_of-requires
column_of-requires c = room_pos c.args.tables.now.n_satom 1 1 c.args.t c.requires.2

pub row_of-requires : goal.row_of-requires
row_of-requires c = room_pos c.args.tables.now.n_satom 1 1 c.args.t c.requires.2

pub column_of-requires-2 : goal.column_of-requires-2
column_of-requires-2 c = room_pos c.args.tables.now.n_satom 1 1 c.args.t c.requires.2

pub stored_block3-requires : goal.stored_block3-requires
stored_block3-requires c =
    let a = c.args in
    let h = room_pos a.tables.now.n_satom 1 1 a.t c.requires.2 in
    let T : ShiftTables = given a.tables.now in
    let ea : c.column_of-2.result ≡ a.t / a.tables.now.n_satom % a.tables.now.n_satom = c.column_of-2.ensures ∙ ap (λ x. x % a.tables.now.n_satom) c.row_of.ensures in
    let eb = c.column_of.ensures in
    let ha : c.column_of-2.result < a.tables.now.n_satom = rw c.column_of-2.ensures (mod-lt _ h) in
    let hb : c.column_of.result < a.tables.now.n_satom = rw eb (mod-lt _ h) in
    (tables limit3 T (lit≤ tt) c.requires.0, c.requires.3, ha, hb)

pub returns-then-leg-eq0 : goal.returns-then-leg-eq0
returns-then-leg-eq0 c =
    let a = c.args in
    let h = room_pos a.tables.now.n_satom 1 1 a.t c.requires.2 in
    let T : ShiftTables = given a.tables.now in
    let ea : c.column_of-2.result ≡ a.t / a.tables.now.n_satom % a.tables.now.n_satom = c.column_of-2.ensures ∙ ap (λ x. x % a.tables.now.n_satom) c.row_of.ensures in
    let eb = c.column_of.ensures in
    let ha : c.column_of-2.result < a.tables.now.n_satom = rw c.column_of-2.ensures (mod-lt _ h) in
    let hb : c.column_of.result < a.tables.now.n_satom = rw eb (mod-lt _ h) in
    leg3_0 T a.t a.i c.if-leg-eq0.true ea eb c.stored_block3.ensures

pub stored_block3-requires-then-leg-eq1 : goal.stored_block3-requires-then-leg-eq1
stored_block3-requires-then-leg-eq1 c =
    let a = c.args in
    let h = room_pos a.tables.now.n_satom 1 1 a.t c.requires.2 in
    let T : ShiftTables = given a.tables.now in
    let ea : c.column_of-2.result ≡ a.t / a.tables.now.n_satom % a.tables.now.n_satom = c.column_of-2.ensures ∙ ap (λ x. x % a.tables.now.n_satom) c.row_of.ensures in
    let eb = c.column_of.ensures in
    let ha : c.column_of-2.result < a.tables.now.n_satom = rw c.column_of-2.ensures (mod-lt _ h) in
    let hb : c.column_of.result < a.tables.now.n_satom = rw eb (mod-lt _ h) in
    (tables limit3 T (lit≤ tt) c.requires.0, ha, c.requires.3, hb)

pub returns-then-leg-eq1 : goal.returns-then-leg-eq1
returns-then-leg-eq1 c =
    let a = c.args in
    let h = room_pos a.tables.now.n_satom 1 1 a.t c.requires.2 in
    let T : ShiftTables = given a.tables.now in
    let ea : c.column_of-2.result ≡ a.t / a.tables.now.n_satom % a.tables.now.n_satom = c.column_of-2.ensures ∙ ap (λ x. x % a.tables.now.n_satom) c.row_of.ensures in
    let eb = c.column_of.ensures in
    let ha : c.column_of-2.result < a.tables.now.n_satom = rw c.column_of-2.ensures (mod-lt _ h) in
    let hb : c.column_of.result < a.tables.now.n_satom = rw eb (mod-lt _ h) in
    leg3_1 T a.t a.i c.if-leg-eq1.true ea eb c.stored_block3-then-leg-eq1.ensures

pub stored_block3-requires-2 : goal.stored_block3-requires-2
stored_block3-requires-2 c =
    let a = c.args in
    let h = room_pos a.tables.now.n_satom 1 1 a.t c.requires.2 in
    let T : ShiftTables = given a.tables.now in
    let ea : c.column_of-2.result ≡ a.t / a.tables.now.n_satom % a.tables.now.n_satom = c.column_of-2.ensures ∙ ap (λ x. x % a.tables.now.n_satom) c.row_of.ensures in
    let eb = c.column_of.ensures in
    let ha : c.column_of-2.result < a.tables.now.n_satom = rw c.column_of-2.ensures (mod-lt _ h) in
    let hb : c.column_of.result < a.tables.now.n_satom = rw eb (mod-lt _ h) in
    (tables limit3 T (lit≤ tt) c.requires.0, ha, hb, c.requires.3)

pub returns : goal.returns
returns c =
    let a = c.args in
    let h = room_pos a.tables.now.n_satom 1 1 a.t c.requires.2 in
    let T : ShiftTables = given a.tables.now in
    let ea : c.column_of-2.result ≡ a.t / a.tables.now.n_satom % a.tables.now.n_satom = c.column_of-2.ensures ∙ ap (λ x. x % a.tables.now.n_satom) c.row_of.ensures in
    let eb = c.column_of.ensures in
    let ha : c.column_of-2.result < a.tables.now.n_satom = rw c.column_of-2.ensures (mod-lt _ h) in
    let hb : c.column_of.result < a.tables.now.n_satom = rw eb (mod-lt _ h) in
    leg3_2 T a.t a.i (last-leg a.leg c.requires.1 c.if-leg-eq0.false c.if-leg-eq1.false) ea eb c.stored_block3-2.ensures
