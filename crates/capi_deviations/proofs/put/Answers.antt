use native.Mathlib.Omega.{arith}
use Rattle.capi_deviations.specs.Slots.{few, put-given, put_refused}
use Rattle.capi_deviations.proofs.put.Goals as goal

pub row_of-requires : goal.row_of-requires
row_of-requires c = c.requires.0

pub column_of-requires : goal.column_of-requires
column_of-requires c = c.requires.0

pub overflow_add-result : goal.overflow_add-result
overflow_add-result c = let g = few c.in-Ok.q.deviation in omega (arith, g, c.number.ensures)

pub returns-in-Ok : goal.returns-in-Ok
returns-in-Ok c =
    let a = c.args in
    put-given a.n a.value.now a.place.now a.a c.in-Ok.q c.value.result c.row_of.result c.column_of.result c.number.result (c.requires.1, c.requires.2) c.in-Ok.is c.value.ensures c.row_of.ensures c.column_of.ensures c.number.ensures

pub returns-in-Err : goal.returns-in-Err
returns-in-Err c =
    let a = c.args in
    put_refused a.n a.value.now a.place.now a.a c.in-Err.r c.from.result c.in-Err.is c.from.ensures
