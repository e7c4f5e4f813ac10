use native.Mathlib.Omega.{arith}
use mathlib.Core.Path.{◌≡◌}
use Prim.Native.Nat.{ℕ, ◌≤◌}
use lib.Dec.{lit≤}
use Rattle.tables.specs.Limits.{limit3}
use Rattle.tables.specs.Compact.{ShiftTables, given}
use Rattle.places.specs.ReadOuts.{tables}
use Rattle.acoustic.specs.Laws.{other3_0, other3_1, other3_2}
use Rattle.acoustic.proofs.third.other_block.Goals as goal

last-leg : (leg : ℕ) → leg ≤ 2 → (leg ≡ 0 → ⊥) → (leg ≡ 1 → ⊥) → leg ≡ 2
last-leg leg h a b = omega (arith, h, a, b)

pub stored_block2-requires : goal.stored_block2-requires
stored_block2-requires c =
    let a = c.args in
    let T : ShiftTables = given a.tables.now in
    (tables limit3 T (lit≤ tt) c.requires.0, c.requires.3, c.requires.4)

pub returns-then-leg-eq0 : goal.returns-then-leg-eq0
returns-then-leg-eq0 c =
    let a = c.args in
    let T : ShiftTables = given a.tables.now in
    other3_0 T a.i.0 a.j.0 a.k.0 a.leg c.if-leg-eq0.true c.stored_block2.ensures

pub stored_block2-requires-then-leg-eq1 : goal.stored_block2-requires-then-leg-eq1
stored_block2-requires-then-leg-eq1 c =
    let a = c.args in
    let T : ShiftTables = given a.tables.now in
    (tables limit3 T (lit≤ tt) c.requires.0, c.requires.2, c.requires.4)

pub returns-then-leg-eq1 : goal.returns-then-leg-eq1
returns-then-leg-eq1 c =
    let a = c.args in
    let T : ShiftTables = given a.tables.now in
    other3_1 T a.i.0 a.j.0 a.k.0 a.leg c.if-leg-eq1.true c.stored_block2-then-leg-eq1.ensures

pub stored_block2-requires-2 : goal.stored_block2-requires-2
stored_block2-requires-2 c =
    let a = c.args in
    let T : ShiftTables = given a.tables.now in
    (tables limit3 T (lit≤ tt) c.requires.0, c.requires.2, c.requires.3)

pub returns : goal.returns
returns c =
    let a = c.args in
    let T : ShiftTables = given a.tables.now in
    other3_2 T a.i.0 a.j.0 a.k.0 a.leg (last-leg a.leg c.requires.1 c.if-leg-eq0.false c.if-leg-eq1.false) c.stored_block2-2.ensures
