use Rattle.std.proofs.Common.{sym}
use Rattle.roll.specs.StartLaws.{follow-ends}
use Rattle.roll.proofs.judge.has_records.Goals as goal

pub lists_once-requires : goal.lists_once-requires
lists_once-requires c =
    let p = c.requires in
    let f = follow-ends c.args.b.now c.args.n c.args.t (sym c.if-mark_starts.ensures.0) in
    (p.0, p.1, record { few = p.2; small = p.3; whole = p.4; ends = f }, c.mark_starts.ensures.1 c.if-mark_starts.true)
