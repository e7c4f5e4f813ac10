use Rattle.tables.specs.Compact.{shifts_of, given}
use Rattle.fc4.specs.Loops.{takes, sized, visit-free, visit-met}
use Rattle.fc4.proofs.compact.visit.Goals as goal

pub take-requires : goal.take-requires
take-requires c =
    let T = given c.args.tables.now in
    let R = c.requires.ready in
    let (x, y) = takes (shifts_of T) _ _ c.args.b R.rules (sized T R) R.work-length c.requires.in_range.1 c.group_blocks-bs.ensures in
    (x, y, c.requires.in_range.0)

pub returns-then-done-b-eq0 : goal.returns-then-done-b-eq0
returns-then-done-b-eq0 c =
    visit-free _ c.args.b (c.args.fc4.now, c.args.done.now) c.if-done-b-eq0.true c.group_blocks-bs.ensures c.take.ensures

pub returns-else-done-b-eq0 : goal.returns-else-done-b-eq0
returns-else-done-b-eq0 c =
    visit-met _ c.args.b (c.args.fc4.now, c.args.done.now) c.if-done-b-eq0.false
