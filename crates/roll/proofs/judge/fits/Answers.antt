use Rattle.std.proofs.Common.{arith}
use borrow.Author.Tests.{lt-leb}
use Rattle.roll.specs.StartLaws.{head_cut, label_cut, not_cut}
use Rattle.roll.proofs.judge.fits.Goals as goal

pub returns-then-t-at : goal.returns-then-t-at
returns-then-t-at c = let a = c.args in head_cut a.b.now a.at a.t (omega arith)

pub returns-then-record_end-t : goal.returns-then-record_end-t
returns-then-record_end-t c =
    let a = c.args in
    not_cut a.b.now a.at a.t _ _ _ _ _ c.record_end.ensures (omega arith) c.from.ensures c.set_at.ensures.0 c.earlier_at.ensures.0 c.is_ruled.ensures

pub returns-else-record_end-t : goal.returns-else-record_end-t
returns-else-record_end-t c =
    let a = c.args in
    rw (lt-leb c.record_end.result a.t (omega arith)) (label_cut a.b.now a.at a.t c.record_end.result c.record_end.ensures (omega arith))
