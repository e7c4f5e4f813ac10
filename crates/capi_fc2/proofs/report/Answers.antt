use native.Mathlib.Omega.{arith}
use Rattle.capi_fc2.specs.Drift.{few, put, kept}
use borrow.Author.Rules.{rules}
use Rattle.capi_fc2.proofs.report.Goals as goal

pub overflow_add-result : goal.overflow_add-result
overflow_add-result c = omega (arith, few c.in-Ok.q.drift, c.number.ensures)

pub returns-in-Ok : goal.returns-in-Ok
returns-in-Ok c =
    let a = c.args in
    put a.value.now a.place.now c.in-Ok.q a.a c.value.result c.along_number.result c.number.result (search rules) c.in-Ok.is c.value.ensures c.along_number.ensures c.number.ensures

pub returns-in-Err : goal.returns-in-Err
returns-in-Err c =
    let a = c.args in
    kept a.value.now a.place.now a.a c.in-Err.r c.from.result c.in-Err.is c.from.ensures
