use native.Mathlib.Omega.{arith}
use mathlib.Core.Path.{◌≡◌}
use Prim.Native.Nat.{ℕ, ◌≤◌}
use lib.Dec.{lit≤}
use Rattle.tables.specs.Limits.{limit4}
use Rattle.tables.specs.Compact.{ShiftTables, given}
use Rattle.places.specs.ReadOuts.{tables}
use Rattle.acoustic.specs.Laws.{other4_0, other4_1, other4_2, other4_3}
use Rattle.acoustic.proofs.fourth.other_block.Goals as goal

last-leg : (leg : ℕ) → leg ≤ 3 → (leg ≡ 0 → ⊥) → (leg ≡ 1 → ⊥) → (leg ≡ 2 → ⊥) → leg ≡ 3
last-leg leg h a b c = omega (arith, h, a, b, c)

pub stored_block3-requires : goal.stored_block3-requires
stored_block3-requires c =
    let a = c.args in
    let T : ShiftTables = given a.tables.now in
    (tables limit4 T (lit≤ tt) c.requires.0, c.requires.3, c.requires.4, c.requires.5)

pub returns-then-leg-eq0 : goal.returns-then-leg-eq0
returns-then-leg-eq0 c =
    let a = c.args in
    let T : ShiftTables = given a.tables.now in
    other4_0 T a.i.0 a.j.0 a.k.0 a.l.0 a.leg c.if-leg-eq0.true c.stored_block3.ensures

pub stored_block3-requires-then-leg-eq1 : goal.stored_block3-requires-then-leg-eq1
stored_block3-requires-then-leg-eq1 c =
    let a = c.args in
    let T : ShiftTables = given a.tables.now in
    (tables limit4 T (lit≤ tt) c.requires.0, c.requires.2, c.requires.4, c.requires.5)

pub returns-then-leg-eq1 : goal.returns-then-leg-eq1
returns-then-leg-eq1 c =
    let a = c.args in
    let T : ShiftTables = given a.tables.now in
    other4_1 T a.i.0 a.j.0 a.k.0 a.l.0 a.leg c.if-leg-eq1.true c.stored_block3-then-leg-eq1.ensures

pub stored_block3-requires-then-leg-eq2 : goal.stored_block3-requires-then-leg-eq2
stored_block3-requires-then-leg-eq2 c =
    let a = c.args in
    let T : ShiftTables = given a.tables.now in
    (tables limit4 T (lit≤ tt) c.requires.0, c.requires.2, c.requires.3, c.requires.5)

pub returns-then-leg-eq2 : goal.returns-then-leg-eq2
returns-then-leg-eq2 c =
    let a = c.args in
    let T : ShiftTables = given a.tables.now in
    other4_2 T a.i.0 a.j.0 a.k.0 a.l.0 a.leg c.if-leg-eq2.true c.stored_block3-then-leg-eq2.ensures

pub stored_block3-requires-2 : goal.stored_block3-requires-2
stored_block3-requires-2 c =
    let a = c.args in
    let T : ShiftTables = given a.tables.now in
    (tables limit4 T (lit≤ tt) c.requires.0, c.requires.2, c.requires.3, c.requires.4)

pub returns : goal.returns
returns c =
    let a = c.args in
    let T : ShiftTables = given a.tables.now in
    other4_3 T a.i.0 a.j.0 a.k.0 a.l.0 a.leg (last-leg a.leg c.requires.1 c.if-leg-eq0.false c.if-leg-eq1.false c.if-leg-eq2.false) c.stored_block3-2.ensures
