use Rattle.lists.specs.Tab.{times_none, times_more}
use Rattle.fc2_compact.specs.Code.{ready_at, p2s-read}
use Rattle.fc2_compact.proofs.pairs.transpose_row.Goals as goal

pub p2s_at-i-requires : goal.p2s_at-i-requires
p2s_at-i-requires c = p2s-read c.requires.0 c.args.p c.requires.1

pub loop-j-init : goal.loop-j-init
loop-j-init c = times_none _ _

pub transpose_visit-requires : goal.transpose_visit-requires
transpose_visit-requires c =
    let l = c.loop-j in
    ready_at l.auto.fc c.requires.0 c.requires.1 c.p2s_at-i.ensures c.loop-j-test.true

pub loop-j-preserved : goal.loop-j-preserved
loop-j-preserved c =
    let l = c.loop-j in
    times_more l.j _ _ l.invariant c.transpose_visit.ensures
