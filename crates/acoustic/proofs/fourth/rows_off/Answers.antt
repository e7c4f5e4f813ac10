use Prim.Native.Nat.{◌*◌}
use native.Mathlib.Nat.{mul-le-mul}
use native.Mathlib.Omega.{arith}
use mathlib.Core.Path.{◌≡◌, refl, ap, ◌∙◌}
use Rattle.lists.specs.Tab.{times, times_none, times_more}
use Rattle.tables.specs.Compact.{ShiftTables, shifts_of, given}
use Rattle.acoustic.specs.Laws.{row_less}
use Rattle.acoustic.proofs.fourth.rows_off.Goals as goal

pub overflow_mul-count : goal.overflow_mul-count
overflow_mul-count c = let g = mul-le-mul c.requires.0.ready.fit.patoms c.requires.0.ready.fit.satoms in omega (arith, g)

pub overflow_mul-count-2 : goal.overflow_mul-count-2
overflow_mul-count-2 c = let g = mul-le-mul (mul-le-mul c.requires.0.ready.fit.patoms c.requires.0.ready.fit.satoms) c.requires.0.ready.fit.satoms in omega (arith, g)

pub loop-row-init : goal.loop-row-init
loop-row-init c = (omega arith, refl, times_none _ _)

pub row_off-requires : goal.row_off-requires
row_off-requires c = (rw c.loop-row.invariant.1 c.requires.0, c.requires.1, c.loop-row-test.true)

pub overflow_step-row : goal.overflow_step-row
overflow_step-row c =
    let g = mul-le-mul (mul-le-mul c.requires.0.ready.fit.patoms c.requires.0.ready.fit.satoms) c.requires.0.ready.fit.satoms in
    omega (arith, g, c.loop-row-test.true)

pub loop-row-preserved : goal.loop-row-preserved
loop-row-preserved c = let l = c.loop-row in (omega arith, c.row_off.auto.fc4 ∙ l.invariant.1, times_more l.row _ _ l.invariant.2 c.row_off.ensures)

pub returns : goal.returns
returns c =
    let a = c.args in
    let T : ShiftTables = given a.tables.now in
    let l = c.loop-row in
    let e : l.row ≡ a.tables.now.n_patom * a.tables.now.n_satom * a.tables.now.n_satom = omega (arith, c.loop-row-test.false, l.invariant.0) in
    l.invariant.2 ∙ ap (λ k. times k (row_less (shifts_of T) 3 a.leg 81 a.drift.now) a.fc4.now) e
