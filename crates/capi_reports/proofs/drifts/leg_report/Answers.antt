use native.Mathlib.Omega.{arith}
use lib.ListN.{length-set}
use Rattle.capi_fc2.specs.Drift.{few}
use Rattle.capi_reports.specs.Drifts.{leg-put, leg-kept}
use borrow.Author.Rules.{rules}
use Rattle.capi_reports.proofs.drifts.leg_report.Goals as goal

pub bounds-place-4 : goal.bounds-place-4
bounds-place-4 c = let h = c.requires.1 in simp length-set (omega arith)

pub bounds-place-5 : goal.bounds-place-5
bounds-place-5 c = let h = c.requires.1 in simp length-set (omega arith)

pub overflow_add-result : goal.overflow_add-result
overflow_add-result c = let g = few c.in-Ok.q.drift in omega (arith, g, c.number.ensures)

pub returns-in-Ok : goal.returns-in-Ok
returns-in-Ok c =
    let a = c.args in
    leg-put a.value.now a.place.now c.in-Ok.q a.a c.value.result c.number.result (search rules) c.in-Ok.is c.value.ensures c.number.ensures

pub returns-in-Err : goal.returns-in-Err
returns-in-Err c =
    let a = c.args in
    leg-kept a.value.now a.place.now a.a c.in-Err.r c.from.result c.in-Err.is c.from.ensures
