use Rattle.audits.specs.Later.{falls_yes, falls_rest}
use Rattle.audits.proofs.fourth.falls.Goals as goal

pub column_of-k-requires : goal.column_of-k-requires
column_of-k-requires c = c.requires

pub returns-then-l-k : goal.returns-then-l-k
returns-then-l-k c =
    let a = c.args in
    falls_yes a.n a.b c.column_of-l.ensures c.row_of-pjk.ensures c.column_of-k.ensures c.row_of-pj.ensures c.column_of-j.ensures c.if-l-k.true

pub returns : goal.returns
returns c =
    let a = c.args in
    falls_rest a.n a.b c.column_of-l.ensures c.row_of-pjk.ensures c.column_of-k.ensures c.row_of-pj.ensures c.column_of-j.ensures c.if-l-k.false
