use Rattle.fc4.specs.Spread.{one-more-passed}
use Rattle.fc4.proofs.spread.next_block.Goals as goal

pub loop-n-preserved : goal.loop-n-preserved
loop-n-preserved c =
    let l = c.loop-n in
    let f = c.first_alike in
    one-more-passed c.args.bs.now c.args.s l.n f.result l.invariant c.loop-n-test.true f.ensures.0 f.ensures.1 c.if-first_alike-n.false
