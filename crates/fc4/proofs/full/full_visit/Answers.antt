use Rattle.fc4.specs.Loops.{full-takes, visit-free, visit-met}
use Rattle.fc4.proofs.full.full_visit.Goals as goal

pub full_group_blocks-bs-requires : goal.full_group_blocks-bs-requires
full_group_blocks-bs-requires c =
    (c.requires.0.atoms, rw c.requires.0.work-length at c.requires.2)

pub take-requires : goal.take-requires
take-requires c =
    let (x, y) = full-takes c.requires.0 c.args.b c.requires.2 c.full_group_blocks-bs.ensures in
    (x, y, c.requires.1)

pub returns-then-done-b-eq0 : goal.returns-then-done-b-eq0
returns-then-done-b-eq0 c =
    visit-free _ c.args.b (c.args.fc4.now, c.args.done.now) c.if-done-b-eq0.true c.full_group_blocks-bs.ensures c.take.ensures

pub returns-else-done-b-eq0 : goal.returns-else-done-b-eq0
returns-else-done-b-eq0 c =
    visit-met _ c.args.b (c.args.fc4.now, c.args.done.now) c.if-done-b-eq0.false
