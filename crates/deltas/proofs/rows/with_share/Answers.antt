use Rattle.deltas.specs.Rows.{shares_of}
use borrow.Author.Rules.{rules}
use Rattle.deltas.proofs.rows.with_share.Goals as goal

pub returns : goal.returns
returns g c =
    let a = c.args in
    let (some, few, size) = c.requires in
    shares_of g.row.W a.u a.x a.s some (search rules) c.lead.ensures c.lead-2.ensures c.lead-3.ensures
