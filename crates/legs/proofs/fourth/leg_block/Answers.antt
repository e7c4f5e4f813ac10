use Prim.Native.Nat.{ℕ, ◌/◌, ◌%◌, ◌≤◌, ◌<◌}
use native.Mathlib.Nat.{mod-lt}
use native.Mathlib.Omega.{arith}
use mathlib.Core.Path.{◌≡◌, ap, ◌∙◌}
use lib.Dec.{lit≤}
use Rattle.lists.specs.Digits.{room_pos}
use Rattle.tables.specs.Limits.{limit4}
use Rattle.tables.specs.Compact.{ShiftTables, given}
use Rattle.places.specs.ReadOuts.{tables}
use Rattle.legs.specs.Laws.{leg4_0, leg4_1, leg4_2, leg4_3}
use Rattle.legs.proofs.fourth.leg_block.Goals as goal

last-leg : (leg : ℕ) → leg ≤ 3 → (leg ≡ 0 → ⊥) → (leg ≡ 1 → ⊥) → (leg ≡ 2 → ⊥) → leg ≡ 3
last-leg leg h a b d = omega (arith, h, a, b, d)

pub column_of-requires : goal.column_of-requires
column_of-requires c = room_pos c.args.tables.now.n_satom 2 1 c.args.t c.requires.2

pub row_of-ab-requires : goal.row_of-ab-requires
row_of-ab-requires c = room_pos c.args.tables.now.n_satom 2 1 c.args.t c.requires.2

pub column_of-requires-2 : goal.column_of-requires-2
column_of-requires-2 c = room_pos c.args.tables.now.n_satom 2 1 c.args.t c.requires.2

pub row_of-requires : goal.row_of-requires
row_of-requires c = room_pos c.args.tables.now.n_satom 2 1 c.args.t c.requires.2

pub column_of-requires-3 : goal.column_of-requires-3
column_of-requires-3 c = room_pos c.args.tables.now.n_satom 2 1 c.args.t c.requires.2

pub stored_block4-requires : goal.stored_block4-requires
stored_block4-requires c =
    let a = c.args in
    let h = room_pos a.tables.now.n_satom 2 1 a.t c.requires.2 in
    let T : ShiftTables = given a.tables.now in
    let ea : c.column_of-3.result ≡ a.t / a.tables.now.n_satom / a.tables.now.n_satom % a.tables.now.n_satom = c.column_of-3.ensures ∙ ap (λ x. x % a.tables.now.n_satom) (c.row_of.ensures ∙ ap (λ x. x / a.tables.now.n_satom) c.row_of-ab.ensures) in
    let eb : c.column_of-2.result ≡ a.t / a.tables.now.n_satom % a.tables.now.n_satom = c.column_of-2.ensures ∙ ap (λ x. x % a.tables.now.n_satom) c.row_of-ab.ensures in
    let ec = c.column_of.ensures in
    let ha : c.column_of-3.result < a.tables.now.n_satom = rw c.column_of-3.ensures (mod-lt _ h) in
    let hb : c.column_of-2.result < a.tables.now.n_satom = rw c.column_of-2.ensures (mod-lt _ h) in
    let hc : c.column_of.result < a.tables.now.n_satom = rw ec (mod-lt _ h) in
    (tables limit4 T (lit≤ tt) c.requires.0, c.requires.3, ha, hb, hc)

pub returns-then-leg-eq0 : goal.returns-then-leg-eq0
returns-then-leg-eq0 c =
    let a = c.args in
    let h = room_pos a.tables.now.n_satom 2 1 a.t c.requires.2 in
    let T : ShiftTables = given a.tables.now in
    let ea : c.column_of-3.result ≡ a.t / a.tables.now.n_satom / a.tables.now.n_satom % a.tables.now.n_satom = c.column_of-3.ensures ∙ ap (λ x. x % a.tables.now.n_satom) (c.row_of.ensures ∙ ap (λ x. x / a.tables.now.n_satom) c.row_of-ab.ensures) in
    let eb : c.column_of-2.result ≡ a.t / a.tables.now.n_satom % a.tables.now.n_satom = c.column_of-2.ensures ∙ ap (λ x. x % a.tables.now.n_satom) c.row_of-ab.ensures in
    let ec = c.column_of.ensures in
    let ha : c.column_of-3.result < a.tables.now.n_satom = rw c.column_of-3.ensures (mod-lt _ h) in
    let hb : c.column_of-2.result < a.tables.now.n_satom = rw c.column_of-2.ensures (mod-lt _ h) in
    let hc : c.column_of.result < a.tables.now.n_satom = rw ec (mod-lt _ h) in
    leg4_0 T a.t a.i c.if-leg-eq0.true ea eb ec c.stored_block4.ensures

pub stored_block4-requires-then-leg-eq1 : goal.stored_block4-requires-then-leg-eq1
stored_block4-requires-then-leg-eq1 c =
    let a = c.args in
    let h = room_pos a.tables.now.n_satom 2 1 a.t c.requires.2 in
    let T : ShiftTables = given a.tables.now in
    let ea : c.column_of-3.result ≡ a.t / a.tables.now.n_satom / a.tables.now.n_satom % a.tables.now.n_satom = c.column_of-3.ensures ∙ ap (λ x. x % a.tables.now.n_satom) (c.row_of.ensures ∙ ap (λ x. x / a.tables.now.n_satom) c.row_of-ab.ensures) in
    let eb : c.column_of-2.result ≡ a.t / a.tables.now.n_satom % a.tables.now.n_satom = c.column_of-2.ensures ∙ ap (λ x. x % a.tables.now.n_satom) c.row_of-ab.ensures in
    let ec = c.column_of.ensures in
    let ha : c.column_of-3.result < a.tables.now.n_satom = rw c.column_of-3.ensures (mod-lt _ h) in
    let hb : c.column_of-2.result < a.tables.now.n_satom = rw c.column_of-2.ensures (mod-lt _ h) in
    let hc : c.column_of.result < a.tables.now.n_satom = rw ec (mod-lt _ h) in
    (tables limit4 T (lit≤ tt) c.requires.0, ha, c.requires.3, hb, hc)

pub returns-then-leg-eq1 : goal.returns-then-leg-eq1
returns-then-leg-eq1 c =
    let a = c.args in
    let h = room_pos a.tables.now.n_satom 2 1 a.t c.requires.2 in
    let T : ShiftTables = given a.tables.now in
    let ea : c.column_of-3.result ≡ a.t / a.tables.now.n_satom / a.tables.now.n_satom % a.tables.now.n_satom = c.column_of-3.ensures ∙ ap (λ x. x % a.tables.now.n_satom) (c.row_of.ensures ∙ ap (λ x. x / a.tables.now.n_satom) c.row_of-ab.ensures) in
    let eb : c.column_of-2.result ≡ a.t / a.tables.now.n_satom % a.tables.now.n_satom = c.column_of-2.ensures ∙ ap (λ x. x % a.tables.now.n_satom) c.row_of-ab.ensures in
    let ec = c.column_of.ensures in
    let ha : c.column_of-3.result < a.tables.now.n_satom = rw c.column_of-3.ensures (mod-lt _ h) in
    let hb : c.column_of-2.result < a.tables.now.n_satom = rw c.column_of-2.ensures (mod-lt _ h) in
    let hc : c.column_of.result < a.tables.now.n_satom = rw ec (mod-lt _ h) in
    leg4_1 T a.t a.i c.if-leg-eq1.true ea eb ec c.stored_block4-then-leg-eq1.ensures

pub stored_block4-requires-then-leg-eq2 : goal.stored_block4-requires-then-leg-eq2
stored_block4-requires-then-leg-eq2 c =
    let a = c.args in
    let h = room_pos a.tables.now.n_satom 2 1 a.t c.requires.2 in
    let T : ShiftTables = given a.tables.now in
    let ea : c.column_of-3.result ≡ a.t / a.tables.now.n_satom / a.tables.now.n_satom % a.tables.now.n_satom = c.column_of-3.ensures ∙ ap (λ x. x % a.tables.now.n_satom) (c.row_of.ensures ∙ ap (λ x. x / a.tables.now.n_satom) c.row_of-ab.ensures) in
    let eb : c.column_of-2.result ≡ a.t / a.tables.now.n_satom % a.tables.now.n_satom = c.column_of-2.ensures ∙ ap (λ x. x % a.tables.now.n_satom) c.row_of-ab.ensures in
    let ec = c.column_of.ensures in
    let ha : c.column_of-3.result < a.tables.now.n_satom = rw c.column_of-3.ensures (mod-lt _ h) in
    let hb : c.column_of-2.result < a.tables.now.n_satom = rw c.column_of-2.ensures (mod-lt _ h) in
    let hc : c.column_of.result < a.tables.now.n_satom = rw ec (mod-lt _ h) in
    (tables limit4 T (lit≤ tt) c.requires.0, ha, hb, c.requires.3, hc)

pub returns-then-leg-eq2 : goal.returns-then-leg-eq2
returns-then-leg-eq2 c =
    let a = c.args in
    let h = room_pos a.tables.now.n_satom 2 1 a.t c.requires.2 in
    let T : ShiftTables = given a.tables.now in
    let ea : c.column_of-3.result ≡ a.t / a.tables.now.n_satom / a.tables.now.n_satom % a.tables.now.n_satom = c.column_of-3.ensures ∙ ap (λ x. x % a.tables.now.n_satom) (c.row_of.ensures ∙ ap (λ x. x / a.tables.now.n_satom) c.row_of-ab.ensures) in
    let eb : c.column_of-2.result ≡ a.t / a.tables.now.n_satom % a.tables.now.n_satom = c.column_of-2.ensures ∙ ap (λ x. x % a.tables.now.n_satom) c.row_of-ab.ensures in
    let ec = c.column_of.ensures in
    let ha : c.column_of-3.result < a.tables.now.n_satom = rw c.column_of-3.ensures (mod-lt _ h) in
    let hb : c.column_of-2.result < a.tables.now.n_satom = rw c.column_of-2.ensures (mod-lt _ h) in
    let hc : c.column_of.result < a.tables.now.n_satom = rw ec (mod-lt _ h) in
    leg4_2 T a.t a.i c.if-leg-eq2.true ea eb ec c.stored_block4-then-leg-eq2.ensures

pub stored_block4-requires-2 : goal.stored_block4-requires-2
stored_block4-requires-2 c =
    let a = c.args in
    let h = room_pos a.tables.now.n_satom 2 1 a.t c.requires.2 in
    let T : ShiftTables = given a.tables.now in
    let ea : c.column_of-3.result ≡ a.t / a.tables.now.n_satom / a.tables.now.n_satom % a.tables.now.n_satom = c.column_of-3.ensures ∙ ap (λ x. x % a.tables.now.n_satom) (c.row_of.ensures ∙ ap (λ x. x / a.tables.now.n_satom) c.row_of-ab.ensures) in
    let eb : c.column_of-2.result ≡ a.t / a.tables.now.n_satom % a.tables.now.n_satom = c.column_of-2.ensures ∙ ap (λ x. x % a.tables.now.n_satom) c.row_of-ab.ensures in
    let ec = c.column_of.ensures in
    let ha : c.column_of-3.result < a.tables.now.n_satom = rw c.column_of-3.ensures (mod-lt _ h) in
    let hb : c.column_of-2.result < a.tables.now.n_satom = rw c.column_of-2.ensures (mod-lt _ h) in
    let hc : c.column_of.result < a.tables.now.n_satom = rw ec (mod-lt _ h) in
    (tables limit4 T (lit≤ tt) c.requires.0, ha, hb, hc, c.requires.3)

pub returns : goal.returns
returns c =
    let a = c.args in
    let h = room_pos a.tables.now.n_satom 2 1 a.t c.requires.2 in
    let T : ShiftTables = given a.tables.now in
    let ea : c.column_of-3.result ≡ a.t / a.tables.now.n_satom / a.tables.now.n_satom % a.tables.now.n_satom = c.column_of-3.ensures ∙ ap (λ x. x % a.tables.now.n_satom) (c.row_of.ensures ∙ ap (λ x. x / a.tables.now.n_satom) c.row_of-ab.ensures) in
    let eb : c.column_of-2.result ≡ a.t / a.tables.now.n_satom % a.tables.now.n_satom = c.column_of-2.ensures ∙ ap (λ x. x % a.tables.now.n_satom) c.row_of-ab.ensures in
    let ec = c.column_of.ensures in
    let ha : c.column_of-3.result < a.tables.now.n_satom = rw c.column_of-3.ensures (mod-lt _ h) in
    let hb : c.column_of-2.result < a.tables.now.n_satom = rw c.column_of-2.ensures (mod-lt _ h) in
    let hc : c.column_of.result < a.tables.now.n_satom = rw ec (mod-lt _ h) in
    leg4_3 T a.t a.i (last-leg a.leg c.requires.1 c.if-leg-eq0.false c.if-leg-eq1.false c.if-leg-eq2.false) ea eb ec c.stored_block4-2.ensures
