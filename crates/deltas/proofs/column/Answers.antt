use Rattle.deltas.specs.Rows.{is_column}
use Rattle.deltas.proofs.column.Goals as goal

pub returns : goal.returns
returns c =
    let a = c.args in
    is_column a.inv_u.now a.total a.n _ _ c.index_of-y.ensures c.index_of-z.ensures
